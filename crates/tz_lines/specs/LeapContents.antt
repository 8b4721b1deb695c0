-- What the contents that a leap text has given so far stand for, and what comes of them.
use Rattle.std.specs.Prelude.{◌≡◌, ℕ, List, [], map, Ok}
use Rattle.std.specs.declared.cmp.Ordering.{Ordering}
use Rattle.std.specs.Ordering.{ordering_then, int_cmp, nat_cmp, bool_cmp}
use Rattle.std.specs.List.Sorted.{IsPermutation}
use Rattle.tz_types.specs.Reason.{HasReason}
use Rattle.tz_types.specs.declared.leap_entry.LeapEntry.{LeapEntry}
use Rattle.tz_types.specs.declared.leaps.Leaps.{Leaps}
use Rattle.tz_specs.specs.Whole.{IsLeast}
use Rattle.tz_specs.specs.LeapText.{first_moment, leap_contents_of, leap_faults}
use Rattle.tz_specs.specs.LeapText as texts
use Rattle.tz_lines.specs.declared.leap_contents.WrittenLeap.{WrittenLeap}
use Rattle.tz_lines.specs.declared.leap_contents.WrittenExpiry.{WrittenExpiry}
use Rattle.tz_lines.specs.declared.leap_contents.LeapContents.{LeapContents}
use Rattle.tz_lines.specs.declared.error.LineError.{LineError}
use Rattle.tz_lines.specs.Refusal.{line_fault_of}

abbrev pub entry_meant : WrittenLeap → LeapEntry
entry_meant leap = record { date = leap.date; added = leap.added }

abbrev pub leap_meant : WrittenLeap → texts.WrittenLeap
leap_meant leap = record { entry = entry_meant leap; line = leap.line }

abbrev pub expiry_meant : WrittenExpiry → texts.WrittenExpiry
expiry_meant expiry = record { moment = expiry.moment; line = expiry.line }

abbrev pub contents_meant : LeapContents → texts.LeapContents
contents_meant contents =
    record { leaps = map leap_meant contents.leaps.items; expiries = map expiry_meant contents.expiries.items }

-- leap seconds are in the order of their dates, and those of one date in the order of their lines
abbrev pub leap_cmp : WrittenLeap → WrittenLeap → Ordering
leap_cmp a b = ordering_then (int_cmp a.date b.date) (ordering_then (nat_cmp a.line b.line) (bool_cmp a.added b.added))

-- the contents are what the lines of a text give
abbrev pub AreGiven : texts.LeapContents → Type 0
AreGiven contents = (text : List ℕ) × (leap_contents_of text ≡ Ok contents)

-- the contents have no fault, and the table has their leap seconds and their expiry
pub record IsTableOf (contents : texts.LeapContents) (leaps : Leaps) : Type 0 where
  pub no_fault : leap_faults contents ≡ []
  pub entries : IsPermutation (map (λ written. written.entry) contents.leaps) leaps.entries
  pub expires : leaps.expires ≡ first_moment contents.expiries

-- A fault is the least of those of the contents.
abbrev pub MeansWholeLeapFault : LineError → texts.LeapContents → Type 0
MeansWholeLeapFault error contents = HasReason (IsLeast (leap_faults contents)) (line_fault_of error)
