use Rattle.finder.proofs.Common.{◌∙◌, inr, map, refl, to_z-of_z, w128, data_of as claim_data, samples_of}
use Rattle.finder.proofs.FewestPieces.{none_if_too_long}
use Rattle.finder.proofs.LongestPiece.{pieces_to}
use Rattle.finder.proofs.SettlementAnswer.{contested_by, left_open, settled_as, shown_by}
use Rattle.finder.proofs.settlement.settle_heard.Goals as goal

pub certificate_over-requires-clause-pieces : goal.certificate_over-requires-clause-pieces
certificate_over-requires-clause-pieces g c =
    let claim = claim_data c.args.claim.now in
    let samples = samples_of (map g.X.ToExchange.shown c.args.exchanges.now) claim in
    let tables = rw c.exchange_samples-samples.ensures.samples at c.in_ok-tables.ensures in
    rw c.as_slice.ensures.value (pieces_to samples claim c.args.claim.now.lawful
    c.exchange_samples-samples.ensures.of_claim _
    (rw c.in-End.is at c.in_ok-ends.ensures samples (rw c.deref.ensures.value tables)))

pub returns-in-End : goal.returns-in-End
returns-in-End g c =
    let claim = claim_data c.args.claim.now in
    let xs = map g.X.ToExchange.shown c.args.exchanges.now in
    let same = c.exchange_samples-samples.ensures.samples in
    let tables = rw same at c.in_ok-tables.ensures in
    settled_as claim xs _ (shown_by claim xs c.args.claim.now.lawful c.exchange_samples-samples.ensures.of_claim
    c.in_ok-certificate-in-End.certificate c.in-End.ends.items c.requires.courses
    (rw c.in-End.is at c.in_ok-ends.ensures (samples_of xs claim) (rw c.deref.ensures.value tables))
    (rw (same, c.as_slice.ensures.value) at c.in_ok-certificate-in-End.ensures))

pub returns-in-Found : goal.returns-in-Found
returns-in-Found g c =
    settled_as _ _ _ (contested_by (claim_data c.args.claim.now) (map g.X.ToExchange.shown c.args.exchanges.now) _
    c.requires.heard (rw c.in-Found.is at c.in_ok-refutation-in-Stuck.ensures))

pub returns-in-Found-2 : goal.returns-in-Found-2
returns-in-Found-2 g c =
    settled_as _ _ _ (contested_by (claim_data c.args.claim.now) (map g.X.ToExchange.shown c.args.exchanges.now) _
    c.requires.heard (rw c.in-Found-2.is at c.in_ok-refutation-in-TooLong.ensures))

pub returns-in-Stuck : goal.returns-in-Stuck
returns-in-Stuck g c =
    let claim = claim_data c.args.claim.now in
    let xs = map g.X.ToExchange.shown c.args.exchanges.now in
    let tables = rw c.exchange_samples-samples.ensures.samples at c.in_ok-tables.ensures in
    let searched = rw c.in-Nothing.is at c.in_ok-refutation-in-Stuck.ensures in
    settled_as claim xs _ (rw (
      to_z-of_z w128 c.from.result (record { sfits = c.from.type_inv }) ∙ c.from.ensures,
      to_z-of_z w128 c.from-in-Nothing.result (record { sfits = c.from-in-Nothing.type_inv })
          ∙ c.from-in-Nothing.ensures,
    ) (left_open claim xs _ _ c.in-Stuck.hull c.in-Nothing.covers c.in-Nothing.most c.args.claim.now.lawful
    c.exchange_samples-samples.ensures.of_claim c.requires.heard c.requires.courses
    (rw c.in-Stuck.is at c.in_ok-ends.ensures (samples_of xs claim) (rw c.deref.ensures.value tables))
    searched.0 searched.1 searched.2))

pub returns : goal.returns
returns g c =
    let claim = claim_data c.args.claim.now in
    let samples = samples_of (map g.X.ToExchange.shown c.args.exchanges.now) claim in
    let tables = rw c.exchange_samples-samples.ensures.samples at c.in_ok-tables.ensures in
    let long = (rw c.in-TooLong.is at c.in_ok-ends.ensures samples (rw c.deref.ensures.value tables)).0 in
    let searched = rw c.in-Nothing-2.is at c.in_ok-refutation-in-TooLong.ensures in
    record {
      settled = tt;
      refused = inr (
        refl,
        record {
          heard = c.requires.heard;
          courses = c.requires.courses;
          too_long = long;
          none_accepted = none_if_too_long samples claim c.args.claim.now.lawful
              c.exchange_samples-samples.ensures.of_claim long;
          none_refuted = searched.0;
        },
      );
    }
