use Rattle.pcap_reader.proofs.Common.{◌≡◌, ◌+◌, ◌-◌, ◌≤◌, false, inr, rules, sym, IsTrue, IfOk, MatchResult, held_bytes, ShowsHead}
use Rattle.pcap_reader.proofs.Intake.{length-held}
use Rattle.pcap_reader.proofs.Shown.{shown_by_test}
use Rattle.pcap_reader.proofs.capture.CaptureRecordSource.is_ready.Goals as goal

pub returns-else-self : goal.returns-else-self
returns-else-self g c passed =
    let s = c.args.self.now in
    let size = s.input.end - s.input.start in
    let found = c.first_head.ensures in
    let shows : IfOk c.first_head.result (ShowsHead s.format s.given s.input.place (held_bytes s.input)) =
    rw c.held-held.ensures.value at found.shows in
    let whole : MatchResult c.first_head.result (λ head. IsTrue c.is_ok_and.result → 16 + head.captured ≤ size)
    (λ fault. c.is_ok_and.result ≡ false) = search rules in
    inr (inr (shown_by_test s.format s.given s.input.place (held_bytes s.input) size (sym (length-held s.input)) _
    c.first_head.result _ found.few shows whole passed))
