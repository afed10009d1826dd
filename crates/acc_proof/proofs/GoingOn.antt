-- Parts of a check that go on.
use Rattle.std.proofs.Common.{◌≡◌, Bool, true, false, refl, if◌then◌else◌}
use Rattle.acc_proof.specs.Checked.{Checked, Gives, Fails, TooWide, and_then}

pub goes_on : {A B : Type 0} (f : A → Checked B) (o : Checked A) (y : B) → and_then f o ≡ Gives y → (x : A) × (o ≡ Gives x)
    × (f x ≡ Gives y)
goes_on f (Gives x) y h = (x, refl, h)
goes_on f Fails y h = absurd (cc)
goes_on f TooWide y h = absurd (cc)

pub not_wide : {A : Type 0} (b : Bool) (o : Checked A) (y : A) → (if b then TooWide else o) ≡ Gives y → o ≡ Gives y
not_wide true o y h = absurd (cc)
not_wide false o y h = h

pub may : {A : Type 0} (b : Bool) (o : Checked A) (y : A) → (if b then o else Fails) ≡ Gives y → (b ≡ true) × (o ≡ Gives y)
may true o y h = (refl, h)
may false o y h = absurd (cc)
