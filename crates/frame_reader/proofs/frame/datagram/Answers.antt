-- What is given is held, since the frame is a slice of bytes.
use Rattle.std.proofs.Common.{◌≡◌, List, ℕ, Result, Ok, Err, rules, arith}
use Rattle.std.specs.Prelude.{IfOk, MatchResult}
use Rattle.std.proofs.lemmas.Grind.{common_steps}
use Rattle.byte_stream.specs.Bytes.{IsBytes}
use Rattle.frame_reader.specs.declared.kinds.Datagram.{Datagram}
use Rattle.frame_reader.specs.declared.skip.Skip.{Skip}
use Rattle.frame_reader.specs.Frame.{HoldsDatagram, datagram_of, fields_of, skip_of}
use Rattle.frame_reader.proofs.Word.{IsBytes-from_reads}
use Rattle.frame_reader.proofs.Exactness.{holds-given}
use Rattle.frame_reader.proofs.frame.datagram.Goals as goal

holds_where_given : (frame : List ℕ) (r : Result Datagram Skip) → IsBytes frame →
    MatchResult r (λ d. datagram_of frame ≡ Ok (fields_of d)) (λ s. datagram_of frame ≡ Err s) →
    IfOk r (λ d. HoldsDatagram frame (fields_of d))
holds_where_given frame (Ok d) bytes exact = holds-given frame (fields_of d) bytes exact
holds_where_given frame (Err s) bytes exact = tt

pub returns-clause-holds : goal.returns-clause-holds
unfolding datagram_of skip_of
returns-clause-holds c =
    holds_where_given c.args.frame.now c.segment_datagram.result
    (IsBytes-from_reads c.args.frame.now (λ i. omega (arith, c.type_inv.frame i)))
    (first_of (search rules, grind (arith, common_steps)))
