use Rattle.audit.proofs.Common.{map, sym, subst, frame_of, AreRead}
use Rattle.audit.proofs.Excess.{given_records}
use Rattle.audit.proofs.Headline.{claim_of_read, collected_of, within_limits}
use Rattle.audit.proofs.laws.what_is_read_is_said.Goals as goal

pub returns : goal.returns
returns c text bytes e all is =
    let claim = claim_of_read text e.claim is.claim_is in
    let (records, read, same, few) = collected_of e.claim bytes e.collection is.collection_is in
    let lawful = c.claims_are_lawful.ensures.lawful text e.claim claim in
    let (format, capture) = c.what_is_read_is_a_capture.ensures bytes records all read in
    let given = given_records bytes format records all capture in
    let apart = lawful.addresses_differ in
    subst (AreRead text bytes e.claim) (sym same) (record {
      said = record {
        order = format.order;
        unit = format.unit;
        frames = map frame_of records;
        claim_is = c.claims_are_what_their_text_says.ensures text e.claim claim;
        in_limits = within_limits e.claim lawful;
        capture_is = c.records_are_frames.ensures bytes format records capture;
        exchanges_are = c.exchanges_are_in_the_frames.ensures bytes format records e.claim all capture apart;
      };
      none_is_missing = c.exchanges_in_the_frames_are_collected.ensures bytes format records e.claim all capture apart;
      lawful = lawful;
      kept = c.exchanges_keep_their_limits.ensures e.claim records given few;
    })
