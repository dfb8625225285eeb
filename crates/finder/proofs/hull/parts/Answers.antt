use Rattle.finder.proofs.Common.{◌<◌, ◌≤◌, length, get_or, arith, common_steps, take_all, data_of, IsLawfulSample, part_named, All-slice_get}
use Rattle.finder.proofs.EntryList.{listed_parts, part_computed}
use Rattle.finder.proofs.List.{filter_map_more}
use Rattle.finder.proofs.hull.parts.Goals as goal

pub sample_at-low-requires : goal.sample_at-low-requires
sample_at-low-requires g c =
    let same = c.as_slice-entry-items.ensures.value in
    let within = c.loop-entry-test.true in
    let index = c.loop-entry.entry-index in
    rw same (c.requires.named index (0, 0) (rw (← same) within)).0

pub sample_at-high-requires : goal.sample_at-high-requires
sample_at-high-requires g c =
    let same = c.as_slice-entry-items.ensures.value in
    let within = c.loop-entry-test.true in
    let index = c.loop-entry.entry-index in
    rw same (c.requires.named index (0, 0) (rw (← same) within)).1

pub part_of-requires-clause-low : goal.part_of-requires-clause-low
part_of-requires-clause-low g c =
    All-slice_get IsLawfulSample (g.S.SampleSource.samples c.args.samples) _ _ c.requires.samples.lawful
    c.sample_at-low.ensures

pub part_of-requires-clause-high : goal.part_of-requires-clause-high
part_of-requires-clause-high g c =
    All-slice_get IsLawfulSample (g.S.SampleSource.samples c.args.samples) _ _ c.requires.samples.lawful
    c.sample_at-high.ensures

pub loop-entry-preserved : goal.loop-entry-preserved
loop-entry-preserved g c =
    let same = c.as_slice-entry-items.ensures.value in
    let within = c.loop-entry-test.true in
    let index = c.loop-entry.entry-index in
    let entries = c.args.entries.now.items in
    let inside : index < length entries = rw (← same) within in
    let stretch = c.args.stretch in
    let says = part_computed (g.S.SampleSource.samples c.args.samples) (data_of c.args.claim.now) stretch
    (get_or entries index (0, 0)) c.sample_at-low.result c.sample_at-high.result c.part_of.result
    (rw same at c.sample_at-low.ensures) (rw same at c.sample_at-high.ensures) c.part_of.ensures in
    record {
      so_far = filter_map_more (part_named (g.S.SampleSource.samples c.args.samples) (data_of c.args.claim.now)
          stretch) entries index (0, 0) _
          c.loop-entry.parts.items c.push.new.self.items c.loop-entry.invariant.so_far inside says
          c.push.ensures.items;
      fits = grind (arith, common_steps);
    }

pub returns-clause-exact : goal.returns-clause-exact
returns-clause-exact g c =
    let entries = c.args.entries.now.items in
    let past : length entries ≤ c.loop-entry.entry-index =
    rw c.as_slice-entry-items.ensures.value at c.loop-entry-test.false in
    rw (take_all c.loop-entry.entry-index entries past) at c.loop-entry.invariant.so_far

pub returns-clause-listed : goal.returns-clause-listed
returns-clause-listed g c =
    let entries = c.args.entries.now.items in
    let listed = listed_parts (g.S.SampleSource.samples c.args.samples) (data_of c.args.claim.now)
    c.args.stretch entries
    (length c.args.claim.now.servers.items) c.requires.samples.listed in
    let past : length entries ≤ c.loop-entry.entry-index =
    rw c.as_slice-entry-items.ensures.value at c.loop-entry-test.false in
    rw (c.loop-entry.invariant.so_far, take_all c.loop-entry.entry-index entries past) listed
