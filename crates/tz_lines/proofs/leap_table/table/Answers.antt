use Rattle.std.proofs.Common.{◌≡◌, ◌++◌, Some, None, map, ◌∙◌, sym}
use Rattle.tz_specs.specs.LeapText.{first_moment}
use Rattle.tz_lines.specs.LeapContents.{entry_meant, expiry_meant}
use Rattle.tz_lines.specs.LeapFaults.{repeats, later_expiries, last_date, early_expiries}
use Rattle.tz_database.specs.LeastFault.{told_with}
use Rattle.tz_lines.proofs.LeapTables.{fault_of_table, table_ascends, table_is_small, table_of_text}
use Rattle.tz_lines.proofs.leap_table.table.Goals as goal

pub returns-in-Some-clause-err : goal.returns-in-Some-clause-err
returns-in-Some-clause-err c =
    let leaps = c.args.contents.leaps.items in
    let expiries = c.args.contents.expiries.items in
    let ordered = c.in_ok-leaps.leaps.items in
    let told : told_with None (repeats ordered ++ later_expiries expiries ++ early_expiries (last_date ordered) expiries) ≡ Some c.in-Some.fault =
    rw (c.as_slice.ensures.value, c.as_slice-2.ensures.value) at (sym c.least_leap_fault.ensures ∙ c.in-Some.is) in
    fault_of_table leaps ordered expiries c.in-Some.fault c.requires c.in_ok-leaps.ensures.same c.in_ok-leaps.ensures.ordered told

pub new-requires-clause-ascending : goal.new-requires-clause-ascending
new-requires-clause-ascending c =
    let leaps = c.args.contents.leaps.items in
    let expiries = c.args.contents.expiries.items in
    let ordered = c.in_ok-leaps.leaps.items in
    let told : told_with None (repeats ordered ++ later_expiries expiries ++ early_expiries (last_date ordered) expiries) ≡ None =
    rw (c.as_slice.ensures.value, c.as_slice-2.ensures.value) at (sym c.least_leap_fault.ensures ∙ c.in_default.is) in
    let entries : c.in_ok-entries.entries ≡ map entry_meant ordered = rw c.as_slice-3.ensures.value at c.in_ok-entries.ensures in
    rw entries (table_ascends leaps ordered expiries c.requires c.in_ok-leaps.ensures.same c.in_ok-leaps.ensures.ordered told)

pub new-requires-clause-few_enough : goal.new-requires-clause-few_enough
new-requires-clause-few_enough c =
    let ordered = c.in_ok-leaps.leaps.items in
    let entries : c.in_ok-entries.entries ≡ map entry_meant ordered = rw c.as_slice-3.ensures.value at c.in_ok-entries.ensures in
    rw entries (table_is_small c.args.contents.leaps.items ordered c.args.contents.expiries.items c.requires c.in_ok-leaps.ensures.same)

pub returns-clause-ok : goal.returns-clause-ok
returns-clause-ok c =
    let leaps = c.args.contents.leaps.items in
    let expiries = c.args.contents.expiries.items in
    let ordered = c.in_ok-leaps.leaps.items in
    let told : told_with None (repeats ordered ++ later_expiries expiries ++ early_expiries (last_date ordered) expiries) ≡ None =
    rw (c.as_slice.ensures.value, c.as_slice-2.ensures.value) at (sym c.least_leap_fault.ensures ∙ c.in_default.is) in
    let entries : c.in_ok-entries.entries ≡ map entry_meant ordered = rw c.as_slice-3.ensures.value at c.in_ok-entries.ensures in
    let moment : c.first_moment.result ≡ first_moment (map expiry_meant expiries) = rw c.as_slice-4.ensures.value at c.first_moment.ensures in
    table_of_text leaps ordered expiries c.in_ok-new.field-0 c.requires c.in_ok-leaps.ensures.same c.in_ok-leaps.ensures.ordered told (c.in_ok-new.ensures.entries ∙ entries) (c.in_ok-new.ensures.expires ∙ moment)
