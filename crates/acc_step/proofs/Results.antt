-- An error that `?` hands on is the one that came.
use Rattle.std.proofs.Common.{◌≡◌, Result, Ok, Err}
use Rattle.std.specs.Prelude.{IsErrAnd, IsErrOf, OnOk}

pub error_is : {T E : Type 0} (r : Result T E) (x e : E) → IsErrAnd r (λ y. y ≡ x) → IsErrOf r e → x ≡ e
error_is (Ok v) x e h g = cc
error_is (Err y) x e h g = cc

-- what follows from a fact of an Ok is one
pub on_ok : {T E P Q : Type 0} (r : Result T E) → (P → Q) → OnOk r P → OnOk r Q
on_ok (Ok v) f h = f h
on_ok (Err e) f h = h
