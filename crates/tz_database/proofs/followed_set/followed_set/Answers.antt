use Rattle.std.proofs.Common.{◌≡◌, None, Some, option_copied, ap, ◌∙◌}
use Rattle.std.specs.List.{slice_get}
use Rattle.tz_database.proofs.FollowedSets.{got, followed_at}
use Rattle.tz_database.proofs.followed_set.followed_set.Goals as goal

pub returns-in_err-place : goal.returns-in_err-place
returns-in_err-place c =
    rw c.from_residual.ensures (followed_at c.args.parts.now.sets c.args.parts.now.names c.args.places.now c.args.name None c.requires.places c.requires.named c.in_err-place.was)

pub returns : goal.returns
returns c =
    let place = c.in_ok-place.place in
    let sets = c.args.parts.now.sets in
    let set : option_copied c.get.result ≡ slice_get sets place =
    got c.as_slice.result.now place c.get.result c.get.ensures.lookup.3 ∙ ap (λ sets. slice_get sets place) c.as_slice.ensures in
    let followed = followed_at sets c.args.parts.now.names c.args.places.now c.args.name (Some place) c.requires.places c.requires.named c.in_ok-place.was in
    rw set followed
