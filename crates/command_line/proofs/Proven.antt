-- What status 0 shows of a command line that calls for `check`.
use Rattle.std.proofs.Common.{◌≡◌, ◌∙◌, ◌⊎◌, ◌≤◌, ℕ, List, [], Option, Some, None, Err, inl, inr, refl, subst, suc, sym, ap, codes, false, true≢false, zero-le}
use Rattle.std.specs.Prelude.{String, IfSome}
use Rattle.audit.specs.Check.{check}
use Rattle.audit.specs.Run.{ShowsAt}
use Rattle.audit.specs.declared.question.Request.TheVariants as requests
use Rattle.byte_stream.specs.Bytes.{IsBytes}
use Rattle.command_line.specs.Common.{AreOpened, Certificate, FeedState, Global, Invocation, IsProven, IsRefusedBy, JudgedPaths, Kinds, Places, Request, Response, Row, Text, World, bytes_eq, conclusion_of, holds, judged_of, judged_places, names_of, place, second_of}
use Rattle.command_line.specs.Invocation.{IsCalled, IsRefusable, IsRequest}
use Rattle.command_line.specs.Proven.{AreKnown, CallForCheck, IsProvenBySums, places_of_check}
use Rattle.command_line.specs.Run.{Runs}
use Rattle.command_line.specs.Words.{IsReadOnce, MeansBy}
use Rattle.program.specs.Response.{AnswersBy, AreRead, IsRead, Responds}
use Rattle.program.specs.Run.{AnswersOver, IsAnsweredOver}
use Rattle.program.specs.Says.{Says}
use Rattle.program.specs.Files.{HasBytesOf, IsFeedOf, Standing}
use Rattle.program.specs.About.{inputs_of}
use Rattle.program.specs.Invocation.{told_of}
use Rattle.program.specs.Opening.{IsSumsOf}
use Rattle.program.specs.declared.invocation.Invocation.TheVariants as calls
use Rattle.program.specs.declared.invocation.Judgement.TheVariants as judgements
use Rattle.program.specs.declared.response.Summed.{Summed}
use Rattle.report.specs.ExitStatus.{status_of}
use Rattle.report.specs.declared.fault.RunFault.{RunFault}
use Rattle.report.specs.declared.fault.RunFault.TheVariants.{Memory, Device, Write}
use Rattle.report.specs.declared.conclusion.Conclusion.{Conclusion}
use Rattle.summed_inputs.specs.Answer.{ShowsOfBytes}
use Rattle.summed_inputs.specs.Holding.{feed_of}
use Rattle.summed_inputs.specs.InputBytes.{data_of}

-- the law of `check` on bytes
abbrev pub CheckLaw : Type 0
CheckLaw = (about claim certificate capture : List ℕ) → IsBytes capture
    → ShowsOfBytes 0 (check about) claim certificate capture → IsProven claim certificate capture

-- a fault has another status
no_zero : (n : ℕ) → 0 ≡ suc n → ⊥
no_zero n is = cc

not_fault : (fault : RunFault) → 0 ≡ status_of (Err fault) → ⊥
not_fault Memory is = no_zero 2 is
not_fault (Device input) is = no_zero 3 is
not_fault (Write sent) is = no_zero 3 is
not_fault fault is = no_zero 1 is

no_fault : (fault : RunFault) (conclusion : Conclusion) → conclusion ≡ conclusion_of (Err fault) →
    0 ≡ conclusion.code → ⊥
no_fault fault conclusion concludes status =
    not_fault fault (subst (λ (c : Conclusion). 0 ≡ c.code) concludes status)

-- the paths of a check's files, and what is asked of them
abbrev places_in : JudgedPaths → Places
places_in = judged_places (second_of judgements.Check)

-- what is told about them
abbrev about_in : JudgedPaths → Option (List ℕ) → List ℕ
about_in paths text = told_of paths.evidence.style (inputs_of (places_in paths)) text

abbrev IsAnsweredFor : JudgedPaths → World → World → Response → Type 0
IsAnsweredFor paths before after response = IsAnsweredOver (judged_of judgements.Check paths) (places_in paths)
    before after response.summed response.conclusion

-- another command's name
not_so : (name : Text) → bytes_eq (codes "check") name ≡ false → codes "check" ≡ name → ⊥
not_so name other same = true≢false (subst (λ (n : Text). bytes_eq (codes "check") n ≡ false) (sym same) other)

not_asked : (rows : List Row) (request : Request) → IsRequest (codes "check") rows request → ⊥
not_asked rows requests.Samples is = not_so _ refl is
not_asked rows (requests.At at) is = not_so _ refl is.0
not_asked rows (requests.Reading reading) is = not_so _ refl is.0
not_asked rows (requests.ByCovers asked) is = not_so _ refl is.0
not_asked rows requests.Settle is = not_so _ refl is
not_asked rows (requests.Find find) is = not_so _ refl is.0
not_asked rows requests.FindRefutation is = not_so _ refl is.0
not_asked rows (requests.Envelope envelope) is = not_so _ refl is.0
not_asked rows (requests.OrderAfter asked) is = is
not_asked rows (requests.OrderWithin asked) is = not_so _ refl is.0

not_cutting : (codes "check" ≡ codes "find") ⊎ (codes "check" ≡ codes "envelope") → ⊥
not_cutting (inl find) = not_so _ refl find
not_cutting (inr envelope) = not_so _ refl envelope

not_refused : (rows : List Row) (told : Text) → IsRefusable (codes "check") rows told → ⊥
not_refused rows told (inl named) = true≢false named.0
not_refused rows told (inr (inl unstepped)) = not_cutting unstepped.0
not_refused rows told (inr (inr untimed)) = not_so _ refl untimed.0

abbrev places_at : Text → Text → Text → Option Text → Places
places_at claim second capture sums = record {
  claim = claim;
  second = Some (place Certificate second);
  capture = capture;
  sums = sums;
}

same_places : (claim claim' second second' capture capture' : Text) (sums sums' : Option Text) → claim ≡ claim' →
    second ≡ second' → capture ≡ capture' → sums ≡ sums' →
    places_at claim second capture sums ≡ places_at claim' second' capture' sums'
same_places claim claim' second second' capture capture' sums sums' a b c d = rw (a, b, c, d) refl

by_table : (kinds : Kinds) (found : Option (Text × List Row)) (rows : List Row) (invocation : Invocation) →
    kinds ≡ [] → found ≡ Some (codes "check", rows) → MeansBy kinds found invocation →
    MeansBy [] (Some (codes "check", rows)) invocation
by_table kinds found rows invocation none is means =
    subst (λ (f : Option (Text × List Row)). MeansBy [] f invocation) is
    (subst (λ (k : Kinds). MeansBy k found invocation) none means)

-- at status 0 the files were opened, and the question was answered
module _ (G : Type 0) (places : Places) (before after : World) (response : Response)
    (is_yes : 0 ≡ response.conclusion.code)
    (then_shows : (paths : JudgedPaths) → places_in paths ≡ places → IsAnsweredFor paths before after response →
    G) where
  by_answer : (paths : JudgedPaths) → places_in paths ≡ places →
      AnswersOver (judged_of judgements.Check paths) (places_in paths) before after response.summed
      response.conclusion → G
  by_answer paths are (inl unopened) = absurd (no_fault unopened.0.fault _ unopened.0.conclusion_is is_yes)
  by_answer paths are (inr answered) = then_shows paths are answered

  by_refusal : (text : Text) (invocation : Invocation) → IsRefusedBy text invocation →
      Says invocation before after response → G
  by_refusal text (calls.Refuse told) is says = absurd
      (no_zero 4 (is_yes ∙ ap (λ (c : Conclusion). c.code) says.2))
  by_refusal text invocation is says = absurd is

  by_misuse : (paths : JudgedPaths) → places_in paths ≡ places → (misuse : Option Text) (invocation : Invocation) →
      IfSome misuse (λ text. IsRefusedBy text invocation) →
      (misuse ≡ None → invocation ≡ calls.Judge judgements.Check paths) → Says invocation before after response → G
  by_misuse paths are None invocation misused lawful says = by_answer paths are
      (subst (λ (i : Invocation). Says i before after response) (lawful refl) says).0
  by_misuse paths are (Some text) invocation misused lawful says = by_refusal text invocation misused says

  by_called : (rows : List Row) (called invocation : Invocation) → places ≡ places_of_check rows →
      IsCalled (codes "check") rows called → IsReadOnce called invocation → Says invocation before after response → G
  by_called rows (calls.Judge judgements.Check paths) invocation are is once says = by_misuse paths
      (same_places _ _ _ _ _ _ _ _ is.1.evidence.claim is.1.second_is is.1.evidence.capture is.1.evidence.sums
      ∙ sym are) _ invocation once.misused once.lawful says
  by_called rows (calls.Judge (judgements.Refute drift) paths) invocation are is once says =
      absurd (not_so _ refl is.0.0)
  by_called rows (calls.Judge (judgements.Readings covers) paths) invocation are is once says =
      absurd (not_so _ refl is.0.0)
  by_called rows (calls.Ask request paths) invocation are is once says = absurd (not_asked rows request is.0)
  by_called rows (calls.List listed) invocation are is once says = absurd (not_so _ refl is.0)
  by_called rows (calls.Order first second) invocation are is once says = absurd (not_so _ refl is.0)
  by_called rows (calls.RefuseTime shown) invocation are (inl at) once says = absurd (not_so _ refl at.0)
  by_called rows (calls.RefuseTime shown) invocation are (inr (inl at)) once says = absurd (not_so _ refl at.0)
  by_called rows (calls.RefuseTime shown) invocation are (inr (inr order)) once says = absurd (not_so _ refl order.0)
  by_called rows (calls.Refuse text) invocation are is once says = absurd (not_refused rows _ is)
  by_called rows (calls.Show text) invocation are is once says = absurd is

  by_meaning : (rows : List Row) (invocation : Invocation) → places ≡ places_of_check rows →
      MeansBy [] (Some (codes "check", rows)) invocation → Says invocation before after response → G
  by_meaning rows invocation are (called, is, once) says = by_called rows called invocation are is once says

  pub by_words : (words : List (String Global)) → CallForCheck places words → Runs words before after response → G
  by_words words call (inl done) = by_meaning call.rows done.invocation call.places_are
      (by_table _ _ call.rows done.invocation call.faultless call.found done.means) done.says
  by_words words call (inr undone) = absurd (no_fault Memory _ undone.conclusion_is is_yes)

module _ (law : CheckLaw) (paths : JudgedPaths) (before after : World) (response : Response)
    (is_yes : 0 ≡ response.conclusion.code) where
  module _ (path : List ℕ) (given : (places_in paths).sums ≡ Some path)
      (answered : IsAnsweredFor paths before after response) where
    abbrev Answers : Option (List ℕ) → Option Summed → Type 0
    Answers text summed = AnswersBy ((judged_of judgements.Check paths).by text) (names_of (places_in paths))
        answered.feeds text before.out after.out before.err after.err summed response.conclusion

    abbrev AreOpenedWith : Option FeedState → Type 0
    AreOpenedWith sums = AreOpened before.files (places_in paths) after.files.opened answered.feeds sums

    by_text : (sums : FeedState) → AreOpenedWith (Some sums) → (text : List ℕ) → IsRead sums text →
        (summed : Option Summed) → Answers (Some text) summed → IsProvenBySums (places_in paths) before.files
    by_text sums are text is None answers = absurd answers
    by_text sums are text is (Some summed) answers =
        let judged = answers.1.judges.judged (subst (λ (n : ℕ). n ≤ 1) is_yes zero-le) in
        let read = data_of summed.read in
        let about = about_in paths (Some text) in
        record {
          opened = after.files.opened;
          feeds = answered.feeds;
          sums = sums;
          are_opened = are;
          text = text;
          text_is = is.whole;
          read = read;
          summed = judged.summed;
          proven = law about read.claim read.second read.capture judged.summed.capture.0.are_bytes
              (subst (λ (n : ℕ). ShowsOfBytes n (check about) read.claim read.second read.capture) (sym is_yes)
              judged.answered.shows);
        }

    by_read : (sums : FeedState) → AreOpenedWith (Some sums) → (text : Option (List ℕ)) →
        AreRead (Some sums) text → Answers text response.summed → IsProvenBySums (places_in paths) before.files
    by_read sums are None read answers = absurd read
    by_read sums are (Some text) read answers = by_text sums are text read response.summed answers

    by_file : (sums : Option FeedState) → IsSumsOf before.files.standing (Some path) sums → AreOpenedWith sums →
        Responds (judged_of judgements.Check paths) (names_of (places_in paths)) answered.feeds sums before.out
        after.out before.err after.err response.summed response.conclusion →
        IsProvenBySums (places_in paths) before.files
    by_file None feed are responds = absurd feed
    by_file (Some sums) feed are (inl asked) = by_read sums are asked.text asked.read asked.answers
    by_file (Some sums) feed are (inr given_up) = absurd (no_fault given_up.fault _ given_up.told.conclusion_is is_yes)

    pub by_sums : IsProvenBySums (places_in paths) before.files
    by_sums = by_file answered.sums
        (subst (λ (p : Option (List ℕ)). IsSumsOf before.files.standing p answered.sums) given
        answered.are_opened.sums_are) answered.are_opened answered.responds

-- a feed of what is known to stand there
same_feed : (remaining : Option (List ℕ)) (taken faults : ℕ) (bytes : List ℕ) → remaining ≡ Some bytes → taken ≡ 0 →
    faults ≡ 0 → record { remaining = remaining; taken = taken; faults = faults } ≡ feed_of bytes
same_feed remaining taken faults bytes r t f = rw (r, t, f) refl

feed_at : (standing : Standing) (bytes : List ℕ) (feed : FeedState) → standing ≡ holds bytes → IsFeedOf standing feed →
    feed ≡ feed_of bytes
feed_at standing bytes feed stands is = same_feed feed.remaining feed.taken feed.faults bytes
    (subst (λ (s : Standing). HasBytesOf s feed.remaining) stands is.bytes) is.untaken is.unfailed

module _ (law : CheckLaw) (paths : JudgedPaths) (before after : World) (response : Response)
    (is_yes : 0 ≡ response.conclusion.code) (claim certificate capture : List ℕ)
    (known : AreKnown (places_in paths) before.files claim certificate capture) (are_bytes : IsBytes capture)
    (answered : IsAnsweredFor paths before after response) where
  by_feeds : (claim' second capture' : FeedState) → claim' ≡ feed_of claim → second ≡ feed_of certificate →
      capture' ≡ feed_of capture → (about : List ℕ) →
      ShowsAt response.conclusion.code (check about) claim' second capture' → IsProven claim certificate capture
  by_feeds claim' second capture' c s k about shows = law about claim certificate capture are_bytes
      (subst (λ (n : ℕ). ShowsOfBytes n (check about) claim certificate capture) (sym is_yes)
      (rw (c, s, k) at shows))

  by_unsummed : (text : Option (List ℕ)) → AreRead None text →
      AnswersBy ((judged_of judgements.Check paths).by text) (names_of (places_in paths)) answered.feeds text
      before.out after.out before.err after.err response.summed response.conclusion → IsProven claim certificate capture
  by_unsummed (Some text) none answers = absurd (let wrong : Some text ≡ None = none in cc)
  by_unsummed None none answers = by_feeds answered.feeds.claim answered.feeds.second answered.feeds.capture
      (feed_at _ claim _ known.claim_is answered.are_opened.claim)
      (feed_at _ certificate _ known.certificate_is answered.are_opened.second)
      (feed_at _ capture _ known.capture_is answered.are_opened.capture) (about_in paths None) answers.0.shows

  by_responds : (sums : Option FeedState) → sums ≡ None →
      Responds (judged_of judgements.Check paths) (names_of (places_in paths)) answered.feeds sums before.out
      after.out before.err after.err response.summed response.conclusion → IsProven claim certificate capture
  by_responds (Some file) none responds = absurd (let wrong : Some file ≡ None = none in cc)
  by_responds None none (inr given_up) = absurd (no_fault given_up.fault _ given_up.told.conclusion_is is_yes)
  by_responds None none (inl asked) = by_unsummed asked.text asked.read asked.answers

  pub by_known : IsProven claim certificate capture
  by_known = by_responds answered.sums
      (subst (λ (p : Option (List ℕ)). IsSumsOf before.files.standing p answered.sums) known.unsummed
      answered.are_opened.sums_are) answered.responds
