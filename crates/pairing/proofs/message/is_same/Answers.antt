use Rattle.std.proofs.Common.{rules}
use Rattle.pairing.proofs.Words.{IsWord, same_words}
use Rattle.pairing.proofs.message.is_same.Goals as goal

pub returns : goal.returns
returns c =
    let of_a : IsWord c.args.a = record { four = search rules; bytes = search rules } in
    let of_b : IsWord c.args.b = record { four = search rules; bytes = search rules } in
    rw (c.from_be_bytes.ensures, c.from_be_bytes-2.ensures) (same_words c.args.a c.args.b of_a of_b)
