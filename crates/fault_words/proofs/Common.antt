-- What the proofs of this crate name from elsewhere.
pub use Rattle.std.proofs.Common.{Bool, List, T, [], ap, append-nil, append_assoc, arith, codes, false, if◌then◌else◌}
pub use Rattle.std.proofs.Common.{inl, inr, nat_eq, refl, subst, suc, sym, take, true, zero, ℕ, ◌%◌, ◌&&◌, ◌++◌, ◌/◌}
pub use Rattle.std.proofs.Common.{◌<◌, ◌==◌, ◌∙◌, ◌∷◌, ◌≡◌, ◌≤◌}
pub use Rattle.std.proofs.lemmas.Iterator.{YieldsList-from_chars, YieldsList-from_take}
pub use Rattle.std.proofs.lemmas.Iterator.Consumers.{YieldsList-end}
pub use Rattle.std.proofs.lemmas.List.{map-id}
pub use Rattle.std.proofs.lemmas.Str.{NoCharPasses-append, NoCharPasses-nil, encodes-IsAscii}
pub use Rattle.std.specs.List.{flat_map}
pub use Rattle.std.specs.Prelude.{IfSome, None, Option, Some, chars, encode_utf8, string_bytes}
pub use Rattle.fault_words.specs.Explanation.{AreQuiet, AreTwoLines, AreWords, SeenData, IsExplanation}
pub use Rattle.fault_words.specs.Explanation.{IsOutputExplanation, IsTimeExplanation, field_of, field_words}
pub use Rattle.fault_words.specs.Quote.{IsQuiet, IsQuoted, are_visible, front, is_obeyed, is_visible, shown_char}
pub use Rattle.fault_words.specs.Sentence.{IsQuietKnown, KnownData, are_words, filled, filling, known_data}
