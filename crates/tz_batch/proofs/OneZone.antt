-- A name stands for one zone in the version of a source, so what is found there is settled by its zone.
use Rattle.std.proofs.Common.{◌≡◌, ℕ, ◌⊎◌, List, Some, None, refl, sym, ap, ◌∙◌, inl, inr, subst}
use Rattle.std.specs.Prelude.{slice_get}
use Rattle.std.proofs.lemmas.Option.{same_Some}
use Rattle.tz_types.specs.declared.source.Source.{Source}
use Rattle.tz_types.specs.declared.database.Db.{Db}
use Rattle.tz_types.specs.declared.zone.Zone.{Zone}
use Rattle.tz_specs.specs.Reads.{Reads}
use Rattle.tz_specs.specs.Expansion.{periods_of}
use Rattle.tz_specs.proofs.SameDatabase.{one_database}
use Rattle.tz_lines.specs.Locate.{located}
use Rattle.tz_expand.specs.declared.compiled_zone.CompiledZone.{CompiledZone}
use Rattle.tz_expand.proofs.SameZones.{same_lines, same_compiled}
use Rattle.tz_version.specs.declared.sources.Sources.{Sources}
use Rattle.tz_version.specs.Release.{Release, IsDatabaseOf, IsVersionOf, IsZoneCalled, LacksZone}
use Rattle.tz_batch.specs.Finding.{FindsInZone}
use Rattle.tz_lookup.specs.declared.found.Found.{Found}
use Rattle.tz_lookup.specs.declared.found.Found.TheVariants as found

-- the source at a place is read as one database
one_database_at : (texts : List Source) (src place : ℕ) (source other : Source) (db that : Db) → src ≡ place
    → slice_get texts src ≡ Some source → slice_get texts place ≡ Some other → Reads source db → Reads other that → db ≡ that
one_database_at texts src place source other db that same there also first second =
    let sources : source ≡ other = same_Some source other (sym there ∙ ap (slice_get texts) same ∙ also) in
    one_database other db that (subst (λ (it : Source). Reads it db) sources first) second

-- the source of a version of the source at a place stands there
at_home : (sources : Sources) (src : ℕ) (release : Release) (source : Source) → release.sources ≡ sources → release.src ≡ src
    → slice_get release.sources.texts release.src ≡ Some source → slice_get sources.texts src ≡ Some source
at_home sources src release source home place there =
    sym (λ i. slice_get (home i).texts (place i)) ∙ there

-- two versions of the source at a place have one database
same_database : (sources : Sources) (src place : ℕ) (release other : Release) (db that : Db) → src ≡ place
    → IsVersionOf sources src release → IsVersionOf sources place other
    → IsDatabaseOf release.sources release.src db → IsDatabaseOf other.sources other.src that → db ≡ that
same_database sources src place release other db that same h k says also =
    one_database_at sources.texts src place says.source also.source db that same
    (at_home sources src release says.source h.home h.place says.there) (at_home sources place other also.source k.home k.place also.there) says.reads also.reads

-- a name stands for one zone in both
one_zone : (sources : Sources) (src place : ℕ) (release other : Release) (name : List ℕ) (zone that : CompiledZone) → src ≡ place
    → IsVersionOf sources src release → IsVersionOf sources place other
    → IsZoneCalled release name zone → IsZoneCalled other name that → zone ≡ that
one_zone sources src place release other name zone that same h k is also =
    let dbs = same_database sources src place release other is.db also.db same h k is.says also.says in
    let places : is.place ≡ also.place = same_Some is.place also.place (sym is.named ∙ ap (λ (db : Db). located db name) dbs ∙ also.named) in
    let zones : is.zone ≡ also.zone = same_Some is.zone also.zone (sym is.there ∙ (λ i. slice_get (dbs i).zones (places i)) ∙ also.there) in
    same_compiled zone that (is.is.name ∙ ap (λ (it : Zone). it.name) zones ∙ sym also.is.name)
    (same_lines zone.lines that.lines (is.is.lines ∙ (λ i. periods_of (dbs i) (zones i)) ∙ sym also.is.lines))

none_is_not_some : (place : ℕ) → None ≡ Some place → ⊥
none_is_not_some place e = cc

-- a name that stands for a zone in one of them isn't missing in the other
has_no_lack : (sources : Sources) (src place : ℕ) (release other : Release) (name : List ℕ) (zone : CompiledZone) → src ≡ place
    → IsVersionOf sources src release → IsVersionOf sources place other
    → IsZoneCalled release name zone → LacksZone other name → ⊥
has_no_lack sources src place release other name zone same h k is lacks =
    let dbs = same_database sources src place release other is.db lacks.db same h k is.says lacks.says in
    none_is_not_some is.place (sym lacks.missing ∙ ap (λ (db : Db). located db name) (sym dbs) ∙ is.named)

-- the name is missing
abbrev FindsNoZone : Sources → ℕ → List ℕ → Found → Type 0
FindsNoZone sources src name f =
    (release : Release) × IsVersionOf sources src release × LacksZone release name × (f ≡ found.NoZone)

-- this is found in the zone of that name
abbrev FindsZone : Sources → ℕ → List ℕ → (CompiledZone → Found → Type 0) → Found → Type 0
FindsZone sources src name finds f =
    (release : Release) × (zone : CompiledZone) × IsVersionOf sources src release × IsZoneCalled release name zone × finds zone f

-- one of both is
either_found : (sources : Sources) (src : ℕ) (name : List ℕ) (finds : CompiledZone → Found → Type 0) (f : Found)
    → FindsInZone sources src name finds f → FindsNoZone sources src name f ⊎ FindsZone sources src name finds f
either_found sources src name finds (found.Info range) h = inr h
either_found sources src name finds (found.Local info) h = inr h
either_found sources src name finds (found.Sys t) h = inr h
either_found sources src name finds (found.Undecided info) h = inr h
either_found sources src name finds (found.Scan scan) h = inr h
either_found sources src name finds (found.Clock count) h = inr h
either_found sources src name finds (found.Leap info) h = inr h
either_found sources src name finds found.NoZone h = inl (h.0, h.1, h.2, refl)
either_found sources src name finds found.Range h = inr h

both_settled : (sources : Sources) (src place : ℕ) (name : List ℕ) (finds : CompiledZone → Found → Type 0) (f g : Found)
    → ((zone : CompiledZone) (f g : Found) → finds zone f → finds zone g → f ≡ g) → src ≡ place
    → FindsNoZone sources src name f ⊎ FindsZone sources src name finds f
    → FindsNoZone sources place name g ⊎ FindsZone sources place name finds g → f ≡ g
both_settled sources src place name finds f g once same (inl h) (inl k) = h.3 ∙ sym k.3
both_settled sources src place name finds f g once same (inl h) (inr k) =
    absurd (has_no_lack sources place src k.0 h.0 name k.1 (sym same) k.2 h.1 k.3 h.2)
both_settled sources src place name finds f g once same (inr h) (inl k) =
    absurd (has_no_lack sources src place h.0 k.0 name h.1 same h.2 k.1 h.3 k.2)
both_settled sources src place name finds f g once same (inr h) (inr k) =
    let zones = one_zone sources src place h.0 k.0 name h.1 k.1 same h.2 k.2 h.3 k.3 in
    once k.1 f g (subst (λ (zone : CompiledZone). finds zone f) zones h.4) k.4

-- where each zone settles what is found in it, the source and the name do
pub in_zone_settled : (sources : Sources) (src place : ℕ) (name : List ℕ) (finds : CompiledZone → Found → Type 0) (f g : Found)
    → ((zone : CompiledZone) (f g : Found) → finds zone f → finds zone g → f ≡ g) → src ≡ place
    → FindsInZone sources src name finds f → FindsInZone sources place name finds g → f ≡ g
in_zone_settled sources src place name finds f g once same h k =
    both_settled sources src place name finds f g once same (either_found sources src name finds f h) (either_found sources place name finds g k)
