-- What an index keeps of itself, with a transaction that is prepared and with none.
use Rattle.std.proofs.Common.{◌≡◌, ℕ, zero, suc, Bool, true, false, List, sym, subst, refl, ◌∙◌, Option, Some, None, Contains}
use Rattle.std.specs.Prelude.{◌↔◌, MatchOption, is_some, replicate}
use Rattle.std.proofs.lemmas.Option.{same_Some, none-some}
use Rattle.acc_lock_holders.specs.Entries.{Entries, IsSame, HaveRoom}
use Rattle.acc_table.specs.Closures.{is_set}
use Rattle.acc_lock_index.specs.Indexed.{Standing, AreUnder, AreApart, IsReady, HasNumber, IsPlaceOf, IsKept, TakesOut, PutsIn}
use Rattle.acc_lock_index.proofs.Lists.{apart_remove, apart_set}

pub same_under : (ss : List Standing) (es fs : Entries) → AreUnder ss es → IsSame es fs → AreUnder ss fs
same_under ss es fs are same k t =
    (λ c. (are k t).0 (subst (λ ts. Contains ts t) (same k) c), λ h. subst (λ ts. Contains ts t) (sym (same k)) ((are k t).1 h))

pub kept_none : (es : Entries) (ss : List Standing) (p : Option Standing) → p ≡ None → AreUnder ss es → AreApart ss → IsKept es ss p
kept_none es ss p none are apart = record {
  under_keys = are;
  apart = apart;
  ready = subst (λ o. IsReady o es) (sym none) tt;
  waiting = λ s e. absurd (none-some s (sym none ∙ e));
}

pub kept_some : (es : Entries) (ss : List Standing) (s : Standing) → AreUnder ss es → AreApart ss → HaveRoom es s.keys → HasNumber ss s.t
    → IsKept es ss (Some s)
kept_some es ss s are apart room there = record {
  under_keys = are;
  apart = apart;
  ready = room;
  waiting = λ r e. subst (λ (z : Standing). HasNumber ss z.t) (same_Some s r e) there;
}

pub apart_taken : (old new : List Standing) (t : ℕ) → TakesOut old t new → AreApart old → AreApart new
apart_taken old new t taken apart = subst AreApart (sym taken.without) (apart_remove old taken.place apart)

pub apart_put : (old new : List Standing) (next : Standing) → PutsIn old next new → AreApart old → AreApart new
apart_put old new next put apart = subst AreApart (sym put.changed) (apart_set old put.place put.gone next apart put.was (sym put.number))

-- where all flags are down, none is set
pub none_set : (n q : ℕ) → is_set (replicate n false) q ≡ false
none_set zero q = refl
none_set (suc n) zero = refl
none_set (suc n) (suc q) = none_set n q

-- who has a place is there
pub has_by : (ss : List Standing) (t : ℕ) (place : Option ℕ) (b : Bool) → b ≡ is_some place
    → MatchOption place (¬ HasNumber ss t) (IsPlaceOf ss t) → (b ≡ true) ↔ HasNumber ss t
has_by ss t None b e none = (λ h. let no : true ≡ false = sym h ∙ e in cc, λ n. absurd (none n))
has_by ss t (Some i) b e at = (λ h. (at.0, (i, at.1), at.2), λ n. e)
