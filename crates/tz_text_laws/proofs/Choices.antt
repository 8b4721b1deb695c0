-- What a reading went through that gave something.
use Rattle.std.proofs.Common.{◌≡◌, Bool, true, false, IsTrue, Option, Some, None, option_map, refl}
use Rattle.tz_specs.specs.Choice.{◌>>=◌, only_if}

pub bind_some : {A B : Type 0} (x : Option A) (f : A → Option B) (b : B) → (x >>= f) ≡ Some b → (a : A) × (x ≡ Some a) × (f a ≡ Some b)
bind_some None f b h = absurd (cc)
bind_some (Some a) f b h = (a, refl, h)

pub only_some : {A : Type 0} (test : Bool) (x y : A) → only_if test x ≡ Some y → IsTrue test × (x ≡ y)
only_some true x y h = let same : x ≡ y = cc in (refl, same)
only_some false x y h = absurd (cc)

pub map_some : {A B : Type 0} (f : A → B) (x : Option A) (b : B) → option_map f x ≡ Some b → (a : A) × (x ≡ Some a) × (f a ≡ b)
map_some f None b h = absurd (cc)
map_some f (Some a) b h = let same : f a ≡ b = cc in (a, refl, same)

pub some_same : {A : Type 0} (a b : A) → Some a ≡ Some b → a ≡ b
some_same a b h = cc
