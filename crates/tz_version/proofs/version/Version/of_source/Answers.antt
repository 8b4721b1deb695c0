use Rattle.std.proofs.Common.{◌≡◌, Some, slice_get, length, refl, rules}
use Rattle.std.proofs.lemmas.Option.{slice_get_read}
use Rattle.std.proofs.lemmas.Result.{err_from_is_err_and}
use Rattle.tz_version.proofs.Made.{is_made, is_kept, text_refused}
use Rattle.tz_version.proofs.version.Version.of_source.Goals as goal

pub returns-in_err-db-clause-refused : goal.returns-in_err-db-clause-refused
returns-in_err-db-clause-refused c =
    let sources = c.args.sources.now in
    let there : slice_get sources.texts c.args.src ≡ Some c.index-as_slice-src.result = slice_get_read sources.texts _ c.args.src c.index-as_slice-src.result refl c.requires (search rules) in
    let text : c.as_slice-2.result.now ≡ sources.leaps = search rules in
    let gone = err_from_is_err_and c.from_residual-in_err-db.result c.from_residual-in_err-db.ensures.1 in
    rw (gone.1, gone.2) (text_refused sources c.args.src c.index-as_slice-src.result c.in_ok-leaps.leaps c.in_err-db.field-0.0 there (rw text at c.in_ok-leaps.ensures.ok) c.in_err-db.ensures.refused)

pub invariant_of-result : goal.invariant_of-result
invariant_of-result c =
    let sources = c.args.sources.now in
    let there : slice_get sources.texts c.args.src ≡ Some c.index-as_slice-src.result = slice_get_read sources.texts _ c.args.src c.index-as_slice-src.result refl c.requires (search rules) in
    let text : c.as_slice-2.result.now ≡ sources.leaps = search rules in
    let home : c.in_ok-share.field-0 ≡ sources = search rules in
    let one_each : length c.in_ok-cells.cells ≡ length c.in_ok-zones.zones = search rules in
    is_kept sources c.in_ok-share.field-0 c.args.src c.in_ok-db.db c.in_ok-leaps.leaps c.in_ok-zones.zones c.in_ok-cells.cells c.index-as_slice-src.result home there c.in_ok-db.ensures.ok c.in_ok-db.ensures.sound (rw text at c.in_ok-leaps.ensures.ok) c.in_ok-zones.ensures one_each

pub returns-clause-ok : goal.returns-clause-ok
returns-clause-ok c =
    let sources = c.args.sources.now in
    let there : slice_get sources.texts c.args.src ≡ Some c.index-as_slice-src.result = slice_get_read sources.texts _ c.args.src c.index-as_slice-src.result refl c.requires (search rules) in
    let text : c.as_slice-2.result.now ≡ sources.leaps = search rules in
    let home : c.in_ok-share.field-0 ≡ sources = search rules in
    is_made sources c.in_ok-share.field-0 c.args.src c.in_ok-db.db c.in_ok-leaps.leaps c.in_ok-zones.zones c.index-as_slice-src.result home there c.in_ok-db.ensures.ok (rw text at c.in_ok-leaps.ensures.ok) c.in_ok-zones.ensures
