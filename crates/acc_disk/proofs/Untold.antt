-- Of a disk that tells nothing a crash may leave any bytes, before a call and after it.
use Rattle.std.proofs.Common.{ℕ, refl, arith}
use Rattle.acc_disk.specs.Crashes.{Torn, PartlyCut, Follows}

pub any_after_write : (at count : ℕ) → Follows (Torn at count) (λ image. Unit {0}) (λ image. Unit {0})
any_after_write at count image left = (
  image,
  tt,
  record { no_shorter = omega arith; no_longer = omega arith; below = λ i lt under. refl; above = λ i lt over. refl },
)

pub any_after_cut : (to : ℕ) → Follows (PartlyCut to) (λ image. Unit {0}) (λ image. Unit {0})
any_after_cut to image left = (image, tt, record { no_shorter = omega arith; no_longer = omega arith; below = λ i lt under. refl })
