-- What the text of an answer settles, where the operation, its position and the journal are known.
use Rattle.std.proofs.Common.{◌≡◌, ℕ, zero, suc, ◌≤◌, ◌<◌, ◌^◌, List, ◌∷◌, ◌++◌, length, map, get_or, take, true, option_map, slice_get, refl, sym, ap, subst, ◌∙◌, arith, append_assoc}
use Rattle.std.specs.Fmt.{decimal}
use Rattle.std.specs.Prelude.{codes}
use Rattle.std.proofs.Math.Nat.{suc_inj}
use Rattle.std.proofs.lemmas.List.{append_cancel_left}
use Rattle.std.proofs.lemmas.Option.{same_Some}
use mathlib.Core.HLevel.{is_prop→PathP}
use Rattle.std.proofs.Props.{props}
use Rattle.tz_script.specs.declared.operation.Pick.{Pick}
use Rattle.tz_script.specs.declared.operation.Pick.TheVariants.{Front, Held}
use Rattle.pin_book.specs.declared.limits.TheConstants.{MOST_SLOTS}
use Rattle.pin_book.specs.declared.write.Change.{Change}
use Rattle.pin_book.specs.declared.write.Change.TheVariants.{Push, Erase}
use Rattle.pin_book.specs.declared.write.Write.{Write}
use Rattle.pin_book.specs.Replay.{Edition, front_of, state_after, replays}
use Rattle.tz_types.specs.declared.fault.Fault.{Fault}
use Rattle.tz_version.specs.declared.sources.Sources.{Sources}
use Rattle.tz_lookup.specs.Found.{after_space}
use Rattle.tz_lookup.specs.declared.found.Found.{Found}
use Rattle.tz_batch.specs.OutcomeText.{version_text, finding_text, answer_text}
use Rattle.tz_batch.specs.Batch.{Answered, name_of_source, row_of}
use Rattle.tz_batch.specs.Round.{Round, list_at, newest_at}
use Rattle.tz_batch.specs.Answering.{IsToldAs, IsChangeAfter, IsRefusedWith, IsAccepted, HasNameOf, ErasesBehind, ErasesBehindTold, LooksInto, AnswersLook, AnswersHold, AnswersDrop, AnswersReload, AnswersErase, AnswersList, AnswersLookup}
use Rattle.tz_batch.specs.declared.answer.Answer.{Answer}
use Rattle.tz_batch.specs.declared.answer.Answer.TheVariants as answers
use Rattle.tz_batch.specs.declared.listing.Listing.{Listing}
use Rattle.tz_batch.proofs.Fronts.{number_of, front_by_number}
use Rattle.tz_batch.proofs.JournalBounds.{front_low}
use Rattle.tz_batch.proofs.NumberCuts.{number_before}
use Rattle.tz_batch.proofs.RefusedOnce.{refused_once}
use Rattle.tz_batch.proofs.WriteTexts.{apart, three_pieces}

abbrev byte_at : ℕ → List ℕ → ℕ
byte_at place text = get_or text place 0

abbrev slot_of : Edition → ℕ
slot_of edition = edition.slot

-- two rounds over one journal, which isn't too long
pub record AreAlike (p q : Round) : Type 0 where
  pub slots : p.slots ≡ q.slots
  pub sources : p.sources ≡ q.sources
  pub journal : p.journal ≡ q.journal
  pub replay : replays p.slots p.journal ≡ true
  pub few : length p.journal ≤ 2 ^ 24

-- the version was at the front at some position
abbrev pub WasFront : Round → Edition → Type 0
WasFront round edition = (w : ℕ) × (edition ≡ newest_at round w)

-- what is held by a name was at the front at some position
abbrev pub HoldFronts : Round → (List ℕ → Edition → Type 0) → Type 0
HoldFronts round holds = (name : List ℕ) (edition : Edition) → holds name edition → WasFront round edition

looks_at : (round : Round) (holds : List ℕ → Edition → Type 0) (w : ℕ) → HoldFronts round holds → (pick : Pick) (edition : Edition) → LooksInto round holds w pick edition → WasFront round edition
looks_at round holds w fronts Front edition h = (w, h)
looks_at round holds w fronts (Held name) edition h = fronts name edition h

erases_at : (round : Round) (last : ℕ) (holds : List ℕ → Edition → Type 0) → HoldFronts round holds → (pick : Pick) (met : ℕ) (edition : Edition) → ErasesBehind round last holds pick met edition → WasFront round edition
erases_at round last holds fronts Front met edition h = (h.0, h.3)
erases_at round last holds fronts (Held name) met edition h = fronts name edition h

made_same : (make : ℕ → ℕ → Answer) (n slot m place : ℕ) → n ≡ m → slot ≡ place → make n slot ≡ make m place
made_same make n slot m place one two = cc

-- answers that tell one version are one
told_alike : (make : ℕ → ℕ → Answer) (e o : Edition) (n slot m place : ℕ) → e ≡ o → IsToldAs e n slot → IsToldAs o m place → make n slot ≡ make m place
told_alike make e o n slot m place same h k =
    made_same make n slot m place (sym h.0 ∙ ap number_of same ∙ k.0) (sym h.1 ∙ ap slot_of same ∙ k.1)

on_same : (n slot m place : ℕ) (what that : Found) → n ≡ m → slot ≡ place → what ≡ that → answers.On n slot what ≡ answers.On m place that
on_same n slot m place what that one two three = cc

erased_same : (n slot gone m place lost : ℕ) → n ≡ m → slot ≡ place → gone ≡ lost → answers.Erased n slot gone ≡ answers.Erased m place lost
erased_same n slot gone m place lost one two three = cc

refused_same : (a b : Fault) → a ≡ b → answers.Refused a.file a.line a.cause ≡ answers.Refused b.file b.line b.cause
refused_same a b same = ap (λ (it : Fault). answers.Refused it.file it.line it.cause) same

-- of a push, the number and the slot are told
pushed_same : (n src slot m place : ℕ) → Push n src slot ≡ Push m src place → answers.Pushed n slot ≡ answers.Pushed m place
pushed_same n src slot m place same = cc

gone_same : (n gone m lost : ℕ) → Erase n gone ≡ Erase m lost → gone ≡ lost
gone_same n gone m lost same = cc

listing_same : (x y : Listing) → x.w ≡ y.w → x.rows ≡ y.rows → x ≡ y
listing_same x y one two = λ i. record {
  w = one i;
  rows = two i;
  few_rows = is_prop→PathP (λ j. length (two j) ≤ MOST_SLOTS) (λ j. hlevel props) x.few_rows y.few_rows i;
}

module _ (p q : Round) (alike : AreAlike p q) where
  -- at one position one version is at the front
  same_newest : (w v : ℕ) → w ≡ v → newest_at p w ≡ newest_at q v
  same_newest w v at = λ i. front_of (state_after (alike.slots i) (take (at i) (alike.journal i))).listed

  -- and one write stands behind it
  same_change : (w v : ℕ) (change other : Change) → w ≡ v → IsChangeAfter p w change → IsChangeAfter q v other → change ≡ other
  same_change w v change other at h k =
      same_Some change other (sym h ∙ (λ i. option_map (λ (write : Write). write.change) (slice_get (alike.journal i) (at i))) ∙ k)

  same_name : (src w v : ℕ) → w ≡ v → HasNameOf p w src → HasNameOf q v src
  same_name src w v at h =
      sym (λ i. name_of_source (alike.sources i) (same_newest w v at i).src) ∙ h ∙ (λ i. name_of_source (alike.sources i) src)

  same_refusal : (src : ℕ) (fault : Fault) → IsRefusedWith p.sources src fault → IsRefusedWith q.sources src fault
  same_refusal src fault h = subst (λ (sources : Sources). IsRefusedWith sources src fault) alike.sources h

  accepted_too : (src : ℕ) → IsAccepted p.sources src → IsAccepted q.sources src
  accepted_too src h = subst (λ (sources : Sources). IsAccepted sources src) alike.sources h

  -- what is at the front of one is at the front of the other
  here_too : (o : Edition) → WasFront q o → WasFront p o
  here_too o (v, is) = (v, is ∙ sym (same_newest v v refl))

  -- versions with one number are one
  same_version : (e o : Edition) → WasFront p e → WasFront p o → e.n ≡ o.n → e ≡ o
  same_version e o (w, first) (v, second) number =
      first ∙ front_by_number p.slots p.journal w v alike.replay (ap number_of (sym first) ∙ number ∙ ap number_of second) ∙ sym second

  number_low : (e : Edition) → WasFront p e → e.n < 2 ^ 64
  number_low e (w, is) = omega (arith, alike.few, front_low p.slots w p.journal alike.replay, ap number_of is)

  -- the text of a version settles it, and what follows
  version_cut : (e o : Edition) (n slot m place : ℕ) (z t : List ℕ) → WasFront p e → WasFront q o → IsToldAs e n slot → IsToldAs o m place
      → version_text n slot ++ z ≡ version_text m place ++ t → (e ≡ o) × (z ≡ t)
  version_cut e o n slot m place z t first second h k text =
      let also = here_too o second in
      let laid : decimal n ++ 32 ∷ (decimal slot ++ z) ≡ decimal m ++ 32 ∷ (decimal place ++ t) = sym (append_assoc (decimal n) (32 ∷ decimal slot) z) ∙ text ∙ append_assoc (decimal m) (32 ∷ decimal place) t in
      let cut = number_before 32 n m (decimal slot ++ z) (decimal place ++ t) (omega arith) (omega (arith, number_low e first, h.0)) (omega (arith, number_low o also, k.0)) laid in
      let same = same_version e o first also (h.0 ∙ cut.0 ∙ sym k.0) in
      let slots : place ≡ slot = sym k.1 ∙ ap slot_of (sym same) ∙ h.1 in
      (same, append_cancel_left (decimal slot) z t (cut.1 ∙ ap (λ (it : ℕ). decimal it ++ t) slots))

  -- the position settles the reply to `look`
  pub look_settled : (w v : ℕ) (x y : Answer) → w ≡ v → AnswersLook p w x → AnswersLook q v y → x ≡ y
  look_settled w v (answers.Front n slot) (answers.Front m place) at h k =
      told_alike answers.Front (newest_at p w) (newest_at q v) n slot m place (same_newest w v at) h k
  look_settled w v (answers.Front n slot) _ at h k = absurd k
  look_settled w v _ y at h k = absurd h

  -- to `hold`
  pub hold_settled : (w v : ℕ) (x y : Answer) → w ≡ v → AnswersHold p w x → AnswersHold q v y → x ≡ y
  hold_settled w v (answers.Held n slot) (answers.Held m place) at h k =
      told_alike answers.Held (newest_at p w) (newest_at q v) n slot m place (same_newest w v at) h k
  hold_settled w v (answers.Held n slot) _ at h k = absurd k
  hold_settled w v _ y at h k = absurd h

  -- to `list`
  pub list_settled : (w v : ℕ) (x y : Answer) → w ≡ v → AnswersList p w x → AnswersList q v y → x ≡ y
  list_settled w v (answers.Listed listing) (answers.Listed other) at h k =
      let rows : map (row_of p.sources) (list_at p w).listed ≡ map (row_of q.sources) (list_at q v).listed = λ i. map (row_of (alike.sources i)) (state_after (alike.slots i) (take (at i) (alike.journal i))).listed in
      ap answers.Listed (listing_same listing other (h.0 ∙ at ∙ sym k.0) (h.1 ∙ rows ∙ sym k.1))
  list_settled w v (answers.Listed listing) _ at h k = absurd k
  list_settled w v _ y at h k = absurd h

  -- with its text, to `drop`
  pub drop_settled : (hold held : List ℕ → Edition → Type 0) → HoldFronts p hold → HoldFronts q held → (name : List ℕ) (x y : Answer) (z t : List ℕ) → AnswersDrop hold name x → AnswersDrop held name y
      → answer_text x ++ z ≡ answer_text y ++ t → x ≡ y
  drop_settled hold held first second name (answers.Dropped n slot) (answers.Dropped m place) z t h k text =
      let cut = version_cut h.0 k.0 n slot m place z t (first name h.0 h.1) (second name k.0 k.1) h.2 k.2 (append_cancel_left (codes "dropped ") (version_text n slot ++ z) (version_text m place ++ t) text) in
      told_alike answers.Dropped h.0 k.0 n slot m place cut.0 h.2 k.2
  drop_settled hold held first second name (answers.Dropped n slot) _ z t h k text = absurd k
  drop_settled hold held first second name _ y z t h k text = absurd h

  -- to a lookup, where the version settles what is found
  pub lookup_settled : (hold held : List ℕ → Edition → Type 0) → HoldFronts p hold → HoldFronts q held → (w v : ℕ) (pick : Pick) (finds : Edition → Found → Type 0) (x y : Answer) (z t : List ℕ)
      → ((e o : Edition) (f g : Found) → e.src ≡ o.src → finds e f → finds o g → f ≡ g)
      → AnswersLookup p hold w pick finds x → AnswersLookup q held v pick finds y → answer_text x ++ z ≡ answer_text y ++ t → x ≡ y
  lookup_settled hold held first second w v pick finds (answers.On n slot what) (answers.On m place that) z t once h k text =
      let laid = sym (three_pieces (version_text n slot) (codes " ") (finding_text what) z) ∙ text ∙ three_pieces (version_text m place) (codes " ") (finding_text that) t in
      let cut = version_cut h.0 k.0 n slot m place (codes " " ++ (finding_text what ++ z)) (codes " " ++ (finding_text that ++ t)) (looks_at p hold w first pick h.0 h.1) (looks_at q held v second pick k.0 k.1) h.2 k.2 laid in
      on_same n slot m place what that (sym h.2.0 ∙ ap number_of cut.0 ∙ k.2.0) (sym h.2.1 ∙ ap slot_of cut.0 ∙ k.2.1)
      (once h.0 k.0 what that (ap (λ (it : Edition). it.src) cut.0) h.3 k.3)
  lookup_settled hold held first second w v pick finds (answers.On n slot what) _ z t once h k text = absurd k
  lookup_settled hold held first second w v pick finds _ y z t once h k text = absurd h

  -- an erasure's text settles its version, and what follows
  erasure_cut : (hold held : List ℕ → Edition → Type 0) → HoldFronts p hold → HoldFronts q held → (low lower : ℕ) (pick : Pick) (w v n slot m place : ℕ) (z t : List ℕ) → ErasesBehindTold p low hold pick w n slot → ErasesBehindTold q lower held pick v m place
      → version_text n slot ++ z ≡ version_text m place ++ t → (n ≡ m) × (slot ≡ place) × (z ≡ t)
  erasure_cut hold held first second low lower pick w v n slot m place z t h k text =
      let cut = version_cut h.0 k.0 n slot m place z t (erases_at p low hold first pick w h.0 h.1) (erases_at q lower held second pick v k.0 k.1) h.2 k.2 text in
      (sym h.2.0 ∙ ap number_of cut.0 ∙ k.2.0, sym h.2.1 ∙ ap slot_of cut.0 ∙ k.2.1, cut.1)

  -- what follows the version of an erasure
  abbrev erased_tail : ℕ → List ℕ → List ℕ
  erased_tail gone z = codes " erased" ++ (after_space gone ++ z)

  erased_is_laid : (n slot gone : ℕ) (z : List ℕ) → version_text n slot ++ codes " erased" ++ after_space gone ++ z ≡ version_text n slot ++ erased_tail gone z
  erased_is_laid n slot gone z = three_pieces (version_text n slot) (codes " erased") (after_space gone) z

  nothing_is_laid : (n slot : ℕ) (z : List ℕ) → version_text n slot ++ codes " nothing" ++ z ≡ version_text n slot ++ (codes " nothing" ++ z)
  nothing_is_laid n slot z = append_assoc (version_text n slot) (codes " nothing") z

  unlisted_is_laid : (n slot : ℕ) (z : List ℕ) → version_text n slot ++ codes " notlisted" ++ z ≡ version_text n slot ++ (codes " notlisted" ++ z)
  unlisted_is_laid n slot z = append_assoc (version_text n slot) (codes " notlisted") z

  -- to `erase`
  pub erase_settled : (hold held : List ℕ → Edition → Type 0) → HoldFronts p hold → HoldFronts q held → (low lower : ℕ) (pick : Pick) (w v : ℕ) (x y : Answer) (z t : List ℕ) → w ≡ v → AnswersErase p low hold pick w x → AnswersErase q lower held pick v y
      → answer_text x ++ z ≡ answer_text y ++ t → x ≡ y
  erase_settled hold held first second low lower pick (suc w) (suc v) (answers.Erased n slot gone) (answers.Erased m place lost) z t at h k text =
      let cut = erasure_cut hold held first second low lower pick w v n slot m place (erased_tail gone z) (erased_tail lost t) h.0 k.0 (sym (erased_is_laid n slot gone z) ∙ text ∙ erased_is_laid m place lost t) in
      erased_same n slot gone m place lost cut.0 cut.1 (gone_same n gone m lost (same_change w v (Erase n gone) (Erase m lost) (suc_inj at) h.2 k.2))
  erase_settled hold held first second low lower pick zero v (answers.Erased n slot gone) y z t at h k text = absurd h
  erase_settled hold held first second low lower pick w zero x (answers.Erased m place lost) z t at h k text = absurd k
  erase_settled hold held first second low lower pick (suc w) v (answers.Erased n slot gone) (answers.Nothing m place) z t at h k text =
      let cut = erasure_cut hold held first second low lower pick w v n slot m place (erased_tail gone z) (codes " nothing" ++ t) h.0 k.0 (sym (erased_is_laid n slot gone z) ∙ text ∙ nothing_is_laid m place t) in
      absurd (apart 110 101 (omega arith) (sym (ap (byte_at 1) cut.2)))
  erase_settled hold held first second low lower pick (suc w) v (answers.Erased n slot gone) (answers.NotListed m place) z t at h k text =
      let cut = erasure_cut hold held first second low lower pick w v n slot m place (erased_tail gone z) (codes " notlisted" ++ t) h.0 k.0 (sym (erased_is_laid n slot gone z) ∙ text ∙ unlisted_is_laid m place t) in
      absurd (apart 110 101 (omega arith) (sym (ap (byte_at 1) cut.2)))
  erase_settled hold held first second low lower pick (suc w) v (answers.Erased n slot gone) _ z t at h k text = absurd k
  erase_settled hold held first second low lower pick w (suc v) (answers.Nothing n slot) (answers.Erased m place lost) z t at h k text =
      let cut = erasure_cut hold held first second low lower pick w v n slot m place (codes " nothing" ++ z) (erased_tail lost t) h.0 k.0 (sym (nothing_is_laid n slot z) ∙ text ∙ erased_is_laid m place lost t) in
      absurd (apart 110 101 (omega arith) (ap (byte_at 1) cut.2))
  erase_settled hold held first second low lower pick w v (answers.Nothing n slot) (answers.Nothing m place) z t at h k text =
      let cut = erasure_cut hold held first second low lower pick w v n slot m place (codes " nothing" ++ z) (codes " nothing" ++ t) h.0 k.0 (sym (nothing_is_laid n slot z) ∙ text ∙ nothing_is_laid m place t) in
      made_same answers.Nothing n slot m place cut.0 cut.1
  erase_settled hold held first second low lower pick w v (answers.Nothing n slot) (answers.NotListed m place) z t at h k text =
      let cut = erasure_cut hold held first second low lower pick w v n slot m place (codes " nothing" ++ z) (codes " notlisted" ++ t) h.0 k.0 (sym (nothing_is_laid n slot z) ∙ text ∙ unlisted_is_laid m place t) in
      absurd (apart 108 104 (omega arith) (sym (ap (byte_at 4) cut.2)))
  erase_settled hold held first second low lower pick w v (answers.Nothing n slot) _ z t at h k text = absurd k
  erase_settled hold held first second low lower pick w (suc v) (answers.NotListed n slot) (answers.Erased m place lost) z t at h k text =
      let cut = erasure_cut hold held first second low lower pick w v n slot m place (codes " notlisted" ++ z) (erased_tail lost t) h.0 k.0 (sym (unlisted_is_laid n slot z) ∙ text ∙ erased_is_laid m place lost t) in
      absurd (apart 110 101 (omega arith) (ap (byte_at 1) cut.2))
  erase_settled hold held first second low lower pick w v (answers.NotListed n slot) (answers.Nothing m place) z t at h k text =
      let cut = erasure_cut hold held first second low lower pick w v n slot m place (codes " notlisted" ++ z) (codes " nothing" ++ t) h.0 k.0 (sym (unlisted_is_laid n slot z) ∙ text ∙ nothing_is_laid m place t) in
      absurd (apart 108 104 (omega arith) (ap (byte_at 4) cut.2))
  erase_settled hold held first second low lower pick w v (answers.NotListed n slot) (answers.NotListed m place) z t at h k text =
      let cut = erasure_cut hold held first second low lower pick w v n slot m place (codes " notlisted" ++ z) (codes " notlisted" ++ t) h.0 k.0 (sym (unlisted_is_laid n slot z) ∙ text ∙ unlisted_is_laid m place t) in
      made_same answers.NotListed n slot m place cut.0 cut.1
  erase_settled hold held first second low lower pick w v (answers.NotListed n slot) _ z t at h k text = absurd k
  erase_settled hold held first second low lower pick w v _ y z t at h k text = absurd h

  -- to `reload`, of which only the first letter is needed
  pub reload_settled : (src w v : ℕ) (x y : Answer) (z t : List ℕ) → w ≡ v → AnswersReload p src w x → AnswersReload q src v y
      → answer_text x ++ z ≡ answer_text y ++ t → x ≡ y
  reload_settled src w v (answers.Refused file line cause) (answers.Refused other_file other_line other_cause) z t at h k text =
      let a : Fault = record { file = file; line = line; cause = cause } in
      let b : Fault = record { file = other_file; line = other_line; cause = other_cause } in
      refused_same a b (refused_once q.sources src a b (same_refusal src a h) k)
  reload_settled src w v (answers.Refused file line cause) (answers.Same m) z t at h k text = absurd (k.0 _ (same_refusal src _ h))
  reload_settled src w (suc v) (answers.Refused file line cause) (answers.Pushed m place) z t at h k text = absurd (k.0 _ (same_refusal src _ h))
  reload_settled src w zero x (answers.Pushed m place) z t at h k text = absurd k
  reload_settled src w v (answers.Refused file line cause) answers.Full z t at h k text = absurd (k.0 _ (same_refusal src _ h))
  reload_settled src w v (answers.Refused file line cause) _ z t at h k text = absurd k
  reload_settled src w v (answers.Same n) (answers.Refused other_file other_line other_cause) z t at h k text = absurd (accepted_too src h.0 _ k)
  reload_settled src w v (answers.Same n) (answers.Same m) z t at h k text =
      ap answers.Same (sym h.2 ∙ ap number_of (same_newest w v at) ∙ k.2)
  reload_settled src w (suc v) (answers.Same n) (answers.Pushed m place) z t at h k text = absurd (apart 115 112 (omega arith) (ap (byte_at 0) text))
  reload_settled src w v (answers.Same n) answers.Full z t at h k text = absurd (k.1 (same_name src w v at h.1))
  reload_settled src w v (answers.Same n) _ z t at h k text = absurd k
  reload_settled src zero v (answers.Pushed n slot) y z t at h k text = absurd h
  reload_settled src (suc w) v (answers.Pushed n slot) (answers.Refused other_file other_line other_cause) z t at h k text = absurd (accepted_too src h.0 _ k)
  reload_settled src (suc w) v (answers.Pushed n slot) (answers.Same m) z t at h k text = absurd (apart 115 112 (omega arith) (sym (ap (byte_at 0) text)))
  reload_settled src (suc w) (suc v) (answers.Pushed n slot) (answers.Pushed m place) z t at h k text =
      pushed_same n src slot m place (same_change w v (Push n src slot) (Push m src place) (suc_inj at) h.2 k.2)
  reload_settled src (suc w) v (answers.Pushed n slot) answers.Full z t at h k text = absurd (apart 112 102 (omega arith) (ap (byte_at 0) text))
  reload_settled src (suc w) v (answers.Pushed n slot) _ z t at h k text = absurd k
  reload_settled src w v answers.Full (answers.Refused other_file other_line other_cause) z t at h k text = absurd (accepted_too src h.0 _ k)
  reload_settled src w v answers.Full (answers.Same m) z t at h k text = absurd (apart 115 102 (omega arith) (sym (ap (byte_at 0) text)))
  reload_settled src w (suc v) answers.Full (answers.Pushed m place) z t at h k text = absurd (apart 112 102 (omega arith) (sym (ap (byte_at 0) text)))
  reload_settled src w v answers.Full answers.Full z t at h k text = refl
  reload_settled src w v answers.Full _ z t at h k text = absurd k
  reload_settled src w v _ y z t at h k text = absurd h
