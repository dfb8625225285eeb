use Rattle.cover_finder.proofs.hull.hull_without.Goals as goal

pub returns : goal.returns
returns c xs tables = record {
  parts = c.said_over-said.result.parts.items;
  whole = c.said_over-said.ensures.whole xs tables;
  is = rw (c.as_slice.ensures.value, c.as_slice-2.ensures.value, c.false_besides-few.ensures) at c.piece_hull.ensures;
}
