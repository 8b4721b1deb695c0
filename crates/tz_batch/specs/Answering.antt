-- What is answered to an operation at a position, after the list that it met there. A reply that tells of a write met
-- the list before that write; every other reply met the list at its position.
use Rattle.std.specs.Prelude.{◌≡◌, ℕ, suc, ◌≤◌, false, ◌⊎◌, List, map, Some, option_map, slice_get, IsTrue}
use Rattle.tz_types.specs.declared.fault.Fault.{Fault}
use Rattle.tz_script.specs.declared.operation.Op.{Op}
use Rattle.tz_script.specs.declared.operation.Op.TheVariants as ops
use Rattle.tz_script.specs.declared.operation.Pick.{Pick}
use Rattle.tz_script.specs.declared.operation.Pick.TheVariants.{Front, Held}
use Rattle.tz_expand.specs.declared.compiled_zone.CompiledZone.{CompiledZone}
use Rattle.tz_version.specs.declared.sources.Sources.{Sources}
use Rattle.tz_version.specs.Refusal.{RefusesLeapText, RefusesSource}
use Rattle.pin_book.specs.declared.write.Change.{Change}
use Rattle.pin_book.specs.declared.write.Change.TheVariants.{Push, Erase}
use Rattle.pin_book.specs.Replay.{Edition, allowed, is_listed, greatest_below}
use Rattle.tz_batch.specs.Batch.{Answered, name_of_source, row_of}
use Rattle.tz_batch.specs.Round.{Round, list_at, newest_at, position_before}
use Rattle.tz_batch.specs.Held.{IsHeldAs}
use Rattle.tz_batch.specs.Finding.{FindsInfo, FindsLocal, FindsSys, FindsScan, FindsInZone, FindsByClock}
use Rattle.tz_batch.specs.declared.answer.Answer.{Answer}
use Rattle.tz_batch.specs.declared.answer.Answer.TheVariants as answers
use Rattle.tz_lookup.specs.declared.found.Found.{Found}

-- the number and the slot are those of this version
abbrev pub IsToldAs : Edition → ℕ → ℕ → Type 0
IsToldAs edition n slot = (edition.n ≡ n) × (edition.slot ≡ slot)

-- the write after so many changes the list so
abbrev pub IsChangeAfter : Round → ℕ → Change → Type 0
IsChangeAfter round before change =
    option_map (λ write. write.change) (slice_get round.journal before) ≡ Some change

-- `look`
abbrev pub AnswersLook : Round → ℕ → Answer → Type 0
AnswersLook round w (answers.Front n slot) = IsToldAs (newest_at round w) n slot
AnswersLook round w _ = ⊥

-- `hold`
abbrev pub AnswersHold : Round → ℕ → Answer → Type 0
AnswersHold round w (answers.Held n slot) = IsToldAs (newest_at round w) n slot
AnswersHold round w _ = ⊥

-- `drop`, where the lane holds versions by names so
abbrev pub AnswersDrop : (List ℕ → Edition → Type 0) → List ℕ → Answer → Type 0
AnswersDrop holds name (answers.Dropped n slot) = (edition : Edition) × holds name edition × IsToldAs edition n slot
AnswersDrop holds name _ = ⊥

-- no version is made of the source at a place: the leap text is refused with that fault, or it is accepted and the
-- source refused
abbrev pub IsRefusedWith : Sources → ℕ → Fault → Type 0
IsRefusedWith sources src fault = RefusesLeapText sources.leaps fault ⊎ RefusesSource sources src fault

-- a version is made of it
abbrev pub IsAccepted : Sources → ℕ → Type 0
IsAccepted sources src = (fault : Fault) → ¬ (IsRefusedWith sources src fault)

-- the front at a position has the name that a version of the source at a place would have
abbrev pub HasNameOf : Round → ℕ → ℕ → Type 0
HasNameOf round w src =
    name_of_source round.sources (newest_at round w).src ≡ name_of_source round.sources src

-- `reload` of a source at a place
abbrev pub AnswersReload : Round → ℕ → ℕ → Answer → Type 0
AnswersReload round src w (answers.Refused file line cause) =
    IsRefusedWith round.sources src (record { file = file; line = line; cause = cause })
AnswersReload round src w (answers.Same n) =
    IsAccepted round.sources src × HasNameOf round w src × ((newest_at round w).n ≡ n)
AnswersReload round src (suc w) (answers.Pushed n slot) =
    IsAccepted round.sources src × ¬ (HasNameOf round w src) × IsChangeAfter round w (Push n src slot)
AnswersReload round src w answers.Full = IsAccepted round.sources src × ¬ (HasNameOf round w src)
AnswersReload round src w _ = ⊥

-- The version behind which an erasure erases: the one that is held, or the front at some position from the last one of the
-- lane up to the one that the erasure met.
abbrev pub ErasesBehind : Round → ℕ → (List ℕ → Edition → Type 0) → Pick → ℕ → Edition → Type 0
ErasesBehind round last holds Front met edition = (h : ℕ) × (last ≤ h) × (h ≤ met) × (edition ≡ newest_at round h)
ErasesBehind round last holds (Held name) met edition = holds name edition

-- an erasure behind a version that is told so
abbrev pub ErasesBehindTold : Round → ℕ → (List ℕ → Edition → Type 0) → Pick → ℕ → ℕ → ℕ → Type 0
ErasesBehindTold round last holds pick met n slot =
    (edition : Edition) × ErasesBehind round last holds pick met edition × IsToldAs edition n slot

-- `erase`
abbrev pub AnswersErase : Round → ℕ → (List ℕ → Edition → Type 0) → Pick → ℕ → Answer → Type 0
AnswersErase round last holds pick w (answers.NotListed n slot) =
    ErasesBehindTold round last holds pick w n slot × (is_listed n (list_at round w).listed ≡ false)
AnswersErase round last holds pick w (answers.Nothing n slot) =
    ErasesBehindTold round last holds pick w n slot × IsTrue (is_listed n (list_at round w).listed)
    × (greatest_below n (list_at round w).listed ≡ 0)
AnswersErase round last holds pick (suc w) (answers.Erased n slot gone) =
    ErasesBehindTold round last holds pick w n slot × IsTrue (allowed (list_at round w) (Erase n gone))
    × IsChangeAfter round w (Erase n gone)
AnswersErase round last holds pick w _ = ⊥

-- `list`
abbrev pub AnswersList : Round → ℕ → Answer → Type 0
AnswersList round w (answers.Listed listing) =
    (listing.w ≡ w) × (listing.rows ≡ map (row_of round.sources) (list_at round w).listed)
AnswersList round w _ = ⊥

-- the version that a lookup looks into: the one at the front at its position, or the one that is held
abbrev pub LooksInto : Round → (List ℕ → Edition → Type 0) → ℕ → Pick → Edition → Type 0
LooksInto round holds w Front edition = edition ≡ newest_at round w
LooksInto round holds w (Held name) edition = holds name edition

-- a lookup in the version that is picked
abbrev pub AnswersLookup : Round → (List ℕ → Edition → Type 0) → ℕ → Pick → (Edition → Found → Type 0) → Answer → Type 0
AnswersLookup round holds w pick finds (answers.On n slot found) =
    (edition : Edition) × LooksInto round holds w pick edition × IsToldAs edition n slot × finds edition found
AnswersLookup round holds w pick finds _ = ⊥

-- the same in a zone of that name
abbrev pub AnswersInZone : Round → (List ℕ → Edition → Type 0) → ℕ → Pick → List ℕ → (CompiledZone → Found → Type 0) → Answer → Type 0
AnswersInZone round holds w pick name finds answer =
    AnswersLookup round holds w pick (λ edition. FindsInZone round.sources edition.src name finds) answer

-- What one thread answers to an operation at a position, in a lane whose last position was this one and which holds
-- versions by names so.
abbrev pub AnswersOp : Round → ℕ → (List ℕ → Edition → Type 0) → Op → ℕ → Answer → Type 0
AnswersOp round last holds ops.Look w answer = AnswersLook round w answer
AnswersOp round last holds (ops.Hold name) w answer = AnswersHold round w answer
AnswersOp round last holds (ops.Drop name) w answer = AnswersDrop holds name answer
AnswersOp round last holds (ops.Info v zone t) w answer =
    AnswersInZone round holds w v zone (λ compiled. FindsInfo compiled t) answer
AnswersOp round last holds (ops.Local v zone l) w answer =
    AnswersInZone round holds w v zone (λ compiled. FindsLocal compiled l) answer
AnswersOp round last holds (ops.Sys v zone l choose) w answer =
    AnswersInZone round holds w v zone (λ compiled. FindsSys compiled l choose) answer
AnswersOp round last holds (ops.Scan v zone from step count) w answer =
    AnswersInZone round holds w v zone (λ compiled. FindsScan compiled from step count) answer
AnswersOp round last holds (ops.Clock v conv x) w answer =
    AnswersLookup round holds w v (λ edition. FindsByClock round.sources conv x) answer
AnswersOp round last holds (ops.Reload src) w answer = AnswersReload round src w answer
AnswersOp round last holds (ops.Erase v) w answer = AnswersErase round last holds v w answer
AnswersOp round last holds ops.List w answer = AnswersList round w answer

-- the same of a reply, where these operations stand before its own
abbrev pub IsRightReply : Round → List Answered → Answered → Type 0
IsRightReply round before here =
    AnswersOp round (position_before round before here.operation) (IsHeldAs round before here.operation)
    here.operation.op here.reply.w here.reply.answer
