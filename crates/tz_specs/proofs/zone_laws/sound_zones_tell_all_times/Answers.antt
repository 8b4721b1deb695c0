use Rattle.tz_specs.specs.Expansion.{first_instant, end_of_time, periods_of, full_expansion}
use Rattle.tz_specs.proofs.zone_laws.sound_zones_tell_all_times.Goals as goal
use Rattle.tz_specs.proofs.ListLemmas.{In-from_Contains}
use Rattle.tz_specs.proofs.CoverLemmas.{range_at_found}
use Rattle.tz_specs.proofs.CutLemmas.{expansion_covers}
use Rattle.tz_specs.proofs.OffsetLemmas.{zone_offsets_small, sound_local_times}

pub returns : goal.returns
returns c = record {
  covered = λ db zone sound. expansion_covers first_instant end_of_time (periods_of db zone) sound;
  instants = λ db zone t sound inside.
      let found = range_at_found first_instant end_of_time t (full_expansion (periods_of db zone)) (expansion_covers first_instant end_of_time (periods_of db zone) sound) inside.0 inside.1 in
      (found.1, found.3, found.4);
  offsets = λ db zone range among. zone_offsets_small db zone range (In-from_Contains (full_expansion (periods_of db zone)) range among);
  local_times = sound_local_times;
}
