-- Over the contents of its files a batch has one status: the reasons exclude each other.
use Rattle.std.proofs.Common.{◌≡◌, ℕ, ◌≤◌, true, ◌⊎◌, inl, inr, List, [], ◌∷◌, length, refl, sym, ap, ◌∙◌, subst}
use mathlib.Core.HLevel.{is_prop→PathP}
use Rattle.std.proofs.Props.{props}
use Rattle.std.specs.List.{concat}
use Rattle.std.proofs.lemmas.Bool.{true≢false}
use Rattle.tz_types.specs.declared.limit.TheConstants.{MOST_BYTES}
use Rattle.tz_types.specs.declared.source.Source.{Source}
use Rattle.tz_script.specs.Script.{ReadsScript}
use Rattle.tz_script.specs.declared.script.Script.{Script}
use Rattle.tz_script.proofs.ScriptLaws.{not_both}
use Rattle.tz_version.specs.declared.sources.TheConstants.{MOST_SOURCES}
use Rattle.tz_version.specs.declared.sources.Sources.{Sources}
use Rattle.tz_batch.specs.Answering.{IsAccepted}
use Rattle.tz_cli.specs.Lookup.{IsLeapRefusal}
use Rattle.tz_words.specs.NamedText.{NamedText}
use Rattle.tz_words.specs.BatchCommand.{BatchCommand}
use Rattle.tz_words.specs.declared.status.Status.{Status}
use Rattle.tz_words.specs.declared.status.Status.TheVariants as statuses
use Rattle.tz_cli.proofs.Once.{same_source}
use Rattle.tz_top.specs.Groups.{is_too_large}
use Rattle.tz_top.specs.BatchTexts.{AreSourcesOf, AreTextsOf}
use Rattle.tz_top.specs.BatchAnswer.{IsFirstRefusal, IsOpeningRefusal, BatchAnswers, AnswersOver, IsBatchAnswer, IsAcceptedBatch}

-- contents are those of one list of sources
same_list : (texts : List NamedText) (contents : List (List (List ℕ))) (a b : List Source) → AreSourcesOf texts contents a → AreSourcesOf texts contents b → a ≡ b
same_list [] [] [] [] first second = refl
same_list [] [] [] (y ∷ b) first second = absurd second
same_list [] [] (x ∷ a) b first second = absurd first
same_list [] (c ∷ contents) a b first second = absurd first
same_list (t ∷ texts) [] a b first second = absurd first
same_list (t ∷ texts) (c ∷ contents) [] b first second = absurd first
same_list (t ∷ texts) (c ∷ contents) (x ∷ a) [] first second = absurd second
same_list (t ∷ texts) (c ∷ contents) (x ∷ a) (y ∷ b) first second =
    let one : x ≡ y = same_source t c x y first.0 second.0 in
    let others : a ≡ b = same_list texts contents a b first.1 second.1 in cc

-- sources are settled by their texts and the leap text
by_parts : (a b : Sources) → a.texts ≡ b.texts → a.leaps ≡ b.leaps → a ≡ b
by_parts a b texts leaps = λ i. record {
  texts = texts i;
  leaps = leaps i;
  some_text = is_prop→PathP (λ j. 1 ≤ length (texts j)) (λ j. hlevel props) a.some_text b.some_text i;
  few_texts = is_prop→PathP (λ j. length (texts j) ≤ MOST_SOURCES) (λ j. hlevel props) a.few_texts b.few_texts i;
  few_bytes = is_prop→PathP (λ j. length (leaps j) ≤ MOST_BYTES) (λ j. hlevel props) a.few_bytes b.few_bytes i;
}

-- contents are those of one script's text and of the same sources
same_script : (batch : BatchCommand) (contents : List (List (List ℕ))) (s t : List ℕ) (a b : Sources) → AreTextsOf batch contents s a → AreTextsOf batch contents t b → s ≡ t
same_script batch contents s t a b first second =
    let are : (s ∷ []) ∷ first.leaps ∷ first.texts ≡ (t ∷ []) ∷ second.leaps ∷ second.texts = sym first.contents_are ∙ second.contents_are in cc

same_sources : (batch : BatchCommand) (contents : List (List (List ℕ))) (s t : List ℕ) (a b : Sources) → AreTextsOf batch contents s a → AreTextsOf batch contents t b → a ≡ b
same_sources batch contents s t a b first second =
    let are : (s ∷ []) ∷ first.leaps ∷ first.texts ≡ (t ∷ []) ∷ second.leaps ∷ second.texts = sym first.contents_are ∙ second.contents_are in
    let leaps : first.leaps ≡ second.leaps = cc in
    let texts : first.texts ≡ second.texts = cc in
    let there = subst (λ (them : List (List (List ℕ))). AreSourcesOf batch.texts them a.texts) texts first.sources_are in
    by_parts a b (same_list batch.texts second.texts a.texts b.texts there second.sources_are) (first.leaps_are ∙ ap concat leaps ∙ sym second.leaps_are)

-- where a version is made of the first source, neither it nor the leap text is refused
opens_or_not : (sources : Sources) (text line : List ℕ) → IsAccepted sources 0 → IsOpeningRefusal text sources line → ⊥
opens_or_not sources text line opens refusal = by_part refusal.refused
  where
    by_part : IsLeapRefusal sources.leaps line ⊎ IsFirstRefusal sources line → ⊥
    by_part (inl leaps) = opens (record { file = 0; line = leaps.0.line; cause = leaps.0.cause }) (inl (refl, leaps.1))
    by_part (inr first) = opens first.0 (inr first.1)

-- over a script's text and sources there is one status
answers_once : (slots : ℕ) (text : List ℕ) (sources : Sources) (r s : Status) (line other : List ℕ) → BatchAnswers slots text sources r line → BatchAnswers slots text sources s other → r ≡ s
answers_once slots text sources statuses.Ok statuses.Ok line other a b = refl
answers_once slots text sources statuses.Ok statuses.Script line other a b =
    absurd (not_both (length sources.texts) text a.1.script b.0 a.1.reads b.1)
answers_once slots text sources statuses.Ok statuses.Text line other a b =
    absurd (opens_or_not sources text other a.1.opens b)
answers_once slots text sources statuses.Ok s line other a b = absurd b
answers_once slots text sources statuses.Script statuses.Ok line other a b =
    absurd (not_both (length sources.texts) text b.1.script a.0 b.1.reads a.1)
answers_once slots text sources statuses.Script statuses.Script line other a b = refl
answers_once slots text sources statuses.Script statuses.Text line other a b =
    absurd (not_both (length sources.texts) text b.script a.0 b.reads a.1)
answers_once slots text sources statuses.Script s line other a b = absurd b
answers_once slots text sources statuses.Text statuses.Ok line other a b =
    absurd (opens_or_not sources text line b.1.opens a)
answers_once slots text sources statuses.Text statuses.Script line other a b =
    absurd (not_both (length sources.texts) text a.script b.0 a.reads b.1)
answers_once slots text sources statuses.Text statuses.Text line other a b = refl
answers_once slots text sources statuses.Text s line other a b = absurd b
answers_once slots text sources r s line other a b = absurd a

over_once : (batch : BatchCommand) (contents : List (List (List ℕ))) (r s : Status) (line other : List ℕ) → AnswersOver batch contents r line → AnswersOver batch contents s other → r ≡ s
over_once batch contents r s line other a b =
    let texts = same_script batch contents a.text b.text a.sources b.sources a.are b.are in
    let sources = same_sources batch contents a.text b.text a.sources b.sources a.are b.are in
    let here = subst (λ (text : List ℕ). BatchAnswers batch.slots text a.sources r line) texts a.answers in
    let there = subst (λ (sources : Sources). BatchAnswers batch.slots b.text sources r line) sources here in
    answers_once batch.slots b.text b.sources r s line other there b.answers

-- the contents of some group are too large, or the answer is one over texts
pub sized : (batch : BatchCommand) (contents : List (List (List ℕ))) (r : Status) (line : List ℕ) → IsBatchAnswer batch contents r line → ((r ≡ statuses.TooLarge) × (is_too_large contents ≡ true)) ⊎ AnswersOver batch contents r line
sized batch contents statuses.TooLarge line a = inl (refl, a.0)
sized batch contents r line a = inr a

-- over contents that are too large that is the status
pub large_once : (batch : BatchCommand) (contents : List (List (List ℕ))) (status : Status) (line : List ℕ) → is_too_large contents ≡ true → IsBatchAnswer batch contents status line → statuses.TooLarge ≡ status
large_once batch contents status line large answer =
    elim (sized batch contents status line answer) [
      | inl is ↦ sym is.0
      | inr over ↦ absurd (true≢false (sym large ∙ over.few_bytes))
    ]

-- over one list of contents a batch has one status
pub batch_once : (batch : BatchCommand) (contents : List (List (List ℕ))) (r s : Status) (line other : List ℕ) → IsBatchAnswer batch contents r line → IsBatchAnswer batch contents s other → r ≡ s
batch_once batch contents r s line other a b =
    elim (sized batch contents r line a) [
      | inl large ↦ large.0 ∙ large_once batch contents s other large.1 b
      | inr over ↦
          elim (sized batch contents s other b) [
            | inl large ↦ absurd (true≢false (sym large.1 ∙ over.few_bytes))
            | inr also ↦ over_once batch contents r s line other over also
          ]
    ]

-- where the script is read and a version is made of the first source, that is the status
ok_alone : (slots : ℕ) (text : List ℕ) (sources : Sources) (script : Script) (r : Status) (line : List ℕ) → ReadsScript (length sources.texts) text script → IsAccepted sources 0 → BatchAnswers slots text sources r line → r ≡ statuses.Ok
ok_alone slots text sources script statuses.Ok line reads opens a = refl
ok_alone slots text sources script statuses.Script line reads opens a = absurd (not_both (length sources.texts) text script a.0 reads a.1)
ok_alone slots text sources script statuses.Text line reads opens a = absurd (opens_or_not sources text line opens a)
ok_alone slots text sources script r line reads opens a = absurd a

over_accepted : (batch : BatchCommand) (contents : List (List (List ℕ))) (r : Status) (line : List ℕ) → IsAcceptedBatch batch contents → AnswersOver batch contents r line → r ≡ statuses.Ok
over_accepted batch contents r line accepted a =
    let texts = same_script batch contents a.text accepted.text a.sources accepted.sources a.are accepted.are in
    let sources = same_sources batch contents a.text accepted.text a.sources accepted.sources a.are accepted.are in
    let here = subst (λ (text : List ℕ). BatchAnswers batch.slots text a.sources r line) texts a.answers in
    let there = subst (λ (sources : Sources). BatchAnswers batch.slots accepted.text sources r line) sources here in
    ok_alone batch.slots accepted.text accepted.sources accepted.script r line accepted.reads accepted.opens there

-- over contents that are accepted a batch has the status 0
pub accepted_once : (batch : BatchCommand) (contents : List (List (List ℕ))) (r : Status) (line : List ℕ) → IsAcceptedBatch batch contents → IsBatchAnswer batch contents r line → r ≡ statuses.Ok
accepted_once batch contents r line accepted a =
    elim (sized batch contents r line a) [
      | inl large ↦ absurd (true≢false (sym large.1 ∙ accepted.few_bytes))
      | inr over ↦ over_accepted batch contents r line accepted over
    ]
