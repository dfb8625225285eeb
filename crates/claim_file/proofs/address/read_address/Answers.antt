use Rattle.std.proofs.Common.{sym, ap, ◌∙◌, Some}
use Rattle.claim_file.proofs.Addresses.{address_of-IsDotted, address_of-none}
use Rattle.claim_file.proofs.address.read_address.Goals as goal

pub returns-in-Ok : goal.returns-in-Ok
returns-in-Ok c = ap Some c.octets.ensures ∙ sym (address_of-IsDotted _ _ c.in-Ok.ensures.value)

pub returns-in-Err : goal.returns-in-Err
returns-in-Err c = sym (address_of-none c.args.text.now c.in-Err.ensures.value)
