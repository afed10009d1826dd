-- What holders are found by.
use Rattle.std.specs.Prelude.{ℕ, Bool, ◌&&◌, ◌==◌, List, ℤ}
use Rattle.std.specs.Ordering.{int_eq}
use Rattle.std.specs.Cmp.Lexicographic.{pointwise}
use Rattle.acc_lock_holders.specs.declared.keys.Role.{Role}
use Rattle.acc_lock_holders.specs.contracts.keys.RolePartialEq.TheImpl as derived

-- what is done under an entry, the entry's number, and the values of its pairs
pub record Key : Type 0 where
  pub role : Role
  pub entry : ℕ
  pub values : List ℤ

-- the derived test of roles
abbrev pub role_eq : Role → Role → Bool
role_eq x y = derived.ghosts.eq x y

abbrev pub key_eq : Key → Key → Bool
key_eq a b = role_eq a.role b.role && (a.entry == b.entry) && pointwise int_eq a.values b.values
