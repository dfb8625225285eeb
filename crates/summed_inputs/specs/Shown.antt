-- What an exit status shows of bytes, question by question, whatever is told about the inputs.
use Rattle.std.specs.Prelude.{ℕ, List, Bool, Some}
use Rattle.summed_inputs.specs.Common.{AnyData, IsTracedByPieces, IsTracedTo, IsContestedShown, IsShownAs, GiveRefutation, IsContestedOf, IsShownFromAny, ShowsInRelations}

-- The theorem behind a yes of `check`, of the bytes of claim, certificate and capture: for all
-- exchanges of the capture, for those that the certificate names, and in relations alone.
pub record IsProven (claim certificate capture : List ℕ) : Type 0 where
  pub whole : IsTracedTo claim capture
  pub by_pieces : IsTracedByPieces claim certificate capture
  pub in_relations : IsShownAs (Some certificate) claim capture

-- The refutation stands, and that a course breaks the claim is shown in relations alone.
pub record IsDisproven (drift : Bool) (claim refutation capture : List ℕ) : Type 0 where
  pub stands : GiveRefutation (IsContestedOf drift) (Some refutation) claim capture
  pub in_relations : IsContestedShown claim capture

-- `settle` shows the claim by a certificate of either form, and that in relations alone.
pub record IsSettledShown (claim capture : List ℕ) : Type 0 where
  pub certificate : AnyData
  pub shown : IsShownFromAny certificate claim capture
  pub in_relations : ShowsInRelations certificate claim capture
