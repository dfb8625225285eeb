-- Ticks as nanoseconds, by whole seconds and a part of a second.
use Rattle.line_writer.proofs.Common.{◌≡◌, ℕ, ◌+◌, ◌*◌, ◌/◌, ◌%◌, arith, floor_of, ceiling_of, div-whole_and_part, div-whole_and_part_up, shorter, longer}
use Rattle.std.proofs.lemmas.Nat.{div-add-mod'}

pub shorter_by_parts : (ticks : ℕ) →
    ticks / 4294967296 * 1000000000 + ticks % 4294967296 * 1000000000 / 4294967296 ≡ shorter ticks
unfolding floor_of
shorter_by_parts ticks = grind (arith, div-whole_and_part, div-add-mod')

pub longer_by_parts : (ticks : ℕ) →
    ticks / 4294967296 * 1000000000 + (ticks % 4294967296 * 1000000000 + 4294967295) / 4294967296 ≡ longer ticks
unfolding ceiling_of
longer_by_parts ticks = grind (arith, div-whole_and_part_up, div-add-mod')
