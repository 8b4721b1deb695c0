-- What a text says is settled by the text.
use Rattle.std.proofs.Common.{◌≡◌, ℕ, ◌⊎◌, inl, inr, List, Option, Some, None, Result, Ok, Err, refl, sym, ap, ◌∙◌}
use Rattle.tz_types.specs.declared.fault.LineFault.{LineFault}
use Rattle.tz_script.specs.Contents.{ScriptContents}
use Rattle.tz_script.specs.Script.{script_contents_of, whole_fault, ReadsScript, RefusesScript}
use Rattle.tz_script.specs.Laws.{HasSameParts, IsReadable}
use Rattle.tz_script.specs.declared.script.Script.{Script}

one_contents : (sources : ℕ) (text : List ℕ) (a b : ScriptContents) → script_contents_of sources text ≡ Ok a → script_contents_of sources text ≡ Ok b → a ≡ b
one_contents sources text a b first second = cc

pub one_script : (sources : ℕ) (text : List ℕ) (a b : Script) → ReadsScript sources text a → ReadsScript sources text b → HasSameParts a b
one_script sources text a b first second =
    let same = one_contents sources text first.contents second.contents first.given second.given in
    let lanes : Some a.lanes ≡ Some b.lanes = sym first.lanes ∙ ap (λ (it : ScriptContents). it.lanes) same ∙ second.lanes in
    record {
      lanes = cc;
      rounds = first.rounds ∙ ap (λ (it : ScriptContents). it.rounds) same ∙ sym second.rounds;
      operations = first.operations ∙ ap (λ (it : ScriptContents). it.operations) same ∙ sym second.operations;
    }

pub one_fault : (sources : ℕ) (text : List ℕ) (a b : LineFault) → RefusesScript sources text a → RefusesScript sources text b → a ≡ b
one_fault sources text a b (inl first) (inl second) = cc
one_fault sources text a b (inl first) (inr second) = let given = second.given in cc
one_fault sources text a b (inr first) (inl second) = let given = first.given in cc
one_fault sources text a b (inr first) (inr second) =
    let same = one_contents sources text first.contents second.contents first.given second.given in
    let told : Some a ≡ Some b = sym first.told ∙ ap whole_fault same ∙ second.told in
    cc

pub not_both : (sources : ℕ) (text : List ℕ) (script : Script) (fault : LineFault) → ReadsScript sources text script → RefusesScript sources text fault → ⊥
not_both sources text script fault read (inl refused) = let given = read.given in cc
not_both sources text script fault read (inr refused) =
    let same = one_contents sources text read.contents refused.contents read.given refused.given in
    let told : Some fault ≡ None = sym refused.told ∙ ap whole_fault (sym same) ∙ read.no_fault in
    cc

by_fault : (sources : ℕ) (text : List ℕ) (contents : ScriptContents) (told : Option LineFault) → script_contents_of sources text ≡ Ok contents → whole_fault contents ≡ told → IsReadable sources text ⊎ ((fault : LineFault) × RefusesScript sources text fault)
by_fault sources text contents None given told =
    inl (record { contents = contents; given = given; no_fault = told })
by_fault sources text contents (Some fault) given told =
    inr (fault, inr (record { contents = contents; given = given; told = told }))

by_contents : (sources : ℕ) (text : List ℕ) (outcome : Result ScriptContents LineFault) → script_contents_of sources text ≡ outcome → IsReadable sources text ⊎ ((fault : LineFault) × RefusesScript sources text fault)
by_contents sources text (Ok contents) given = by_fault sources text contents (whole_fault contents) given refl
by_contents sources text (Err fault) given = inr (fault, inl given)

pub read_or_refused : (sources : ℕ) (text : List ℕ) → IsReadable sources text ⊎ ((fault : LineFault) × RefusesScript sources text fault)
read_or_refused sources text = by_contents sources text (script_contents_of sources text) refl
