use Rattle.pairing.proofs.Common.{◌≡◌, ◌<◌, ℕ, false, get_or, length, map, take, exchange_shown, is_source}
use Rattle.pairing.proofs.sources.sources.Given as goal

abbrev pub invariant-loop-held : goal.invariant-loop-held
invariant-loop-held l = record {
  whole : length l.seen ≡ 256;
  so_far : (server : ℕ) → server < 256 →
      get_or l.seen server false ≡ is_source (map exchange_shown (take l.held-index l.exchanges)) server;
}
