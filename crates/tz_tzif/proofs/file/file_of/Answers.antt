use Rattle.std.proofs.Common.{◌≡◌, ℕ, ◌++◌, [], ◌∷◌, List, length, rules, refl}
use Rattle.tz_types.specs.declared.range.SysInfo.{SysInfo}
use Rattle.tz_tzif.specs.declared.local_type.LocalType.{LocalType}
use Rattle.tz_tzif.specs.Designations.{designation_octets}
use Rattle.tz_tzif.specs.File.{file_of, first_block, header, data_octets}
use Rattle.tz_tzif.proofs.file.file_of.Goals as goal

whole : (transitions : List SysInfo) (types : List LocalType) (designations : List (List ℕ)) (first second third fourth octets : List ℕ) (times kinds chars : ℕ) → octets ≡ designation_octets designations → times ≡ length transitions → kinds ≡ length types → chars ≡ length octets → first ≡ [] ++ first_block → second ≡ first ++ header (0 ∷ 0 ∷ 0 ∷ times ∷ kinds ∷ chars ∷ []) → third ≡ second ++ data_octets transitions types designations → fourth ≡ third ++ 10 ∷ 10 ∷ [] → fourth ≡ file_of transitions types designations
unfolding file_of
whole transitions types designations first second third fourth octets times kinds chars are many some length_is one two three four =
    rw (four, three, two, one, many, some, length_is, are) refl

pub returns-clause-file : goal.returns-clause-file
returns-clause-file c =
    let octets = c.in_ok-octets.octets.items in
    let chars : c.in_ok-octet_count.octet_count ≡ length octets = search rules in
    let one : c.put_first_block.new.file.items ≡ [] ++ first_block = search rules in
    let slice : c.as_slice.result.now ≡ octets = search rules in
    whole c.args.transitions.now c.args.types.now c.args.designations.now c.put_first_block.new.file.items c.put_header.new.file.items c.put_data.new.file.items c.put_octets.new.file.items octets c.in_ok-transition_count.transition_count c.in_ok-type_count.type_count c.in_ok-octet_count.octet_count c.in_ok-octets.ensures.octets c.in_ok-transition_count.ensures c.in_ok-type_count.ensures chars one c.in_ok-put_header.ensures c.in_ok-put_data.ensures.put c.in_ok-put_octets.ensures
