-- What the definitions and contracts of this crate name of others.
pub use Rattle.json.specs.Json.{parse_map}
pub use Rattle.json_text.specs.Member.{has_only, items_at, members_among, signed_at, unsigned_at, unsigned_of}
pub use Rattle.json_text.specs.Next.{Reads, next_items, next_members, next_value}
pub use Rattle.json_text.specs.Step.{after, asked, given}
pub use Rattle.json_text.specs.Text.{parsed}
pub use Rattle.serde_json.specs.Data.{Data, Items, Members, array, item, member, no_items, no_members, number, object}
pub use Rattle.serde_json.specs.Data.{put, unsigned}
pub use Rattle.serde_json.specs.Events.{items_len}
pub use Rattle.serde_json.specs.Find.{as_array, get_member, of_integer}
pub use Rattle.serde_json.specs.Read.{read}
pub use Rattle.serde_json.specs.View.{items_of, items_view, view}
pub use Rattle.std.specs.Fmt.{signed_decimal}
pub use Rattle.std.specs.List.{join_with_byte}
