use Rattle.std.proofs.Common.{◌≡◌, List, Result, Err, map, pos, rules, subst, arith}
use Rattle.std.specs.Prelude.{IfErr, IfOk, ◌⊎◌}
use Rattle.std.proofs.lemmas.Grind.{common_steps}
use Rattle.cover_finder.specs.Answer.{Answers, IsBeyondPieces}
use Rattle.cover_finder.specs.Common.{ClaimData, Exchange, FindFault, HasTooManyPieces, IsSettledAs, Memory, Settles, TooManyPieces, claim_data, settled_data}
use Rattle.cover_finder.specs.Open.{MayStayOpen}
use Rattle.cover_finder.specs.Search.{Finds}
use Rattle.cover_finder.specs.declared.search.Found.{Found}
use Rattle.cover_finder.specs.declared.search.Found.TheVariants as found
use Rattle.finder.specs.declared.settlement.Settled.{Settled}
use Rattle.cover_finder.proofs.answer.settle.Goals as goal

module _ (claim : ClaimData) (xs : List Exchange) where
  -- where nothing is found, though a course fits
  reason : (what : Found) → what ≡ found.Nothing → Finds claim xs what → IsBeyondPieces claim xs
      → MayStayOpen claim xs
  reason what is finds beyond =
      let at = beyond.courses (pos 0) in
      subst (Finds claim xs) is finds (at.0, at.1.fits)

  refusal : (settled : Result Settled FindFault) (fault : FindFault) → settled ≡ Err fault → Settles claim xs settled
      → MayStayOpen claim xs → Answers claim xs (Err fault)
  refusal settled fault is settles may = record {
    answered = tt;
    refused = subst (λ (r : Result Settled FindFault). IfErr r (λ f.
        (f ≡ Memory) ⊎ ((f ≡ TooManyPieces) × HasTooManyPieces claim xs))) is settles.refused;
    stays_open = tt;
    too_many = λ many. may;
  }

pub returns-in_err-settled-in-Nothing : goal.returns-in_err-settled-in-Nothing
returns-in_err-settled-in-Nothing g c =
    let claim = claim_data c.args.claim.now in
    let xs = map g.X.ToExchange.shown c.args.exchanges.now in
    let may = reason claim xs c.in_ok-certificate.field-0 c.in-Nothing.is c.in_ok-certificate.ensures
    (c.is_open.ensures.beyond c.if-not-is_open.false) in
    let fault : FindFault = c.in_err-settled-in-Nothing.field-0.0 in
    let is : c.from_residual-in_err-settled-in-Nothing.result ≡ Err fault =
    first_of (search rules, grind (arith, common_steps)) in
    rw is (refusal claim xs c.settle-settled.result fault c.in_err-settled-in-Nothing.was c.settle-settled.ensures may)

pub returns-in_ok-settled-in-Nothing : goal.returns-in_ok-settled-in-Nothing
returns-in_ok-settled-in-Nothing g c =
    let claim = claim_data c.args.claim.now in
    let xs = map g.X.ToExchange.shown c.args.exchanges.now in
    let may = reason claim xs c.in_ok-certificate.field-0 c.in-Nothing.is c.in_ok-certificate.ensures
    (c.is_open.ensures.beyond c.if-not-is_open.false) in
    record {
      answered = subst (λ (r : Result Settled FindFault). IfOk r (λ s. IsSettledAs claim xs (settled_data s)))
          c.in_ok-settled-in-Nothing.was c.settle-settled.ensures.settled;
      refused = tt;
      stays_open = λ still. may;
      too_many = tt;
    }
