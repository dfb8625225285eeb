-- What the definitions and contracts of this crate name of others.
pub use Rattle.json.specs.Json.{parse_map}
pub use Rattle.json_text.specs.Member.{has_only, items_at, members_among, unsigned_at, unsigned_of}
pub use Rattle.json_text.specs.Next.{Reads, next_items, next_members, next_value}
pub use Rattle.json_text.specs.Step.{after, asked, given}
pub use Rattle.json_text.specs.Text.{parsed}
pub use Rattle.serde_json.specs.Data.{Data, Items, Members, array, item, member, no_items, no_members, object}
pub use Rattle.serde_json.specs.Data.{put}
pub use Rattle.serde_json.specs.Events.{items_len}
pub use Rattle.serde_json.specs.Find.{as_array, get_member}
pub use Rattle.serde_json.specs.Read.{read}
pub use Rattle.serde_json.specs.View.{items_of}
pub use Rattle.std.specs.List.{join_with_byte}
