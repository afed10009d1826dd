use Rattle.std.proofs.Common.{◌≡◌, ◌∙◌, ap, sym, subst, None, Some}
use Rattle.std.specs.Prelude.{slice_get}
use Rattle.acc_lock_index.specs.Indexed.{Indexed, AreUnder, AreApart, AreKeysOf, StandsFor}
use Rattle.acc_lock_index.proofs.Keepers.{same_under, kept_none}
use Rattle.acc_lock_index.proofs.Lists.{apart_push, stands_push}
use Rattle.acc_lock_index.proofs.indexes.LockIndex.enter.Goals as goal

pub invariant_of-self-in_err-make_room_for : goal.invariant_of-self-in_err-make_room_for
invariant_of-self-in_err-make_room_for c =
    let ss = c.self.inside.standings.items in
    let es = c.self.inside.holders.entries in
    let fs = c.make_room_for.new.holders.entries in
    let none : c.self.inside.prepared ≡ None = ap (λ (v : Indexed). v.prepared) c.self.view_is ∙ c.forget_prepared.ensures.none in
    kept_none fs c.reserve.new.self.items c.self.inside.prepared none
    (subst (λ l. AreUnder l fs) (sym c.reserve.ensures.items)
    (same_under ss es fs c.self.invariant.under_keys c.make_room_for.ensures.same))
    (subst AreApart (sym c.reserve.ensures.items) c.self.invariant.apart)

pub add_one-requires-clause-under : goal.add_one-requires-clause-under
add_one-requires-clause-under c =
    let ss = c.self.inside.standings.items in
    let es = c.self.inside.holders.entries in
    let fs = c.make_room_for.new.holders.entries in
    subst (λ l. AreUnder l fs) (sym c.reserve.ensures.items) (same_under ss es fs c.self.invariant.under_keys c.make_room_for.ensures.same)

pub invariant_of-self-2 : goal.invariant_of-self-2
invariant_of-self-2 c =
    let none : c.self.inside.prepared ≡ None = ap (λ (v : Indexed). v.prepared) c.self.view_is ∙ c.forget_prepared.ensures.none in
    let items : c.reserve.new.self.items ≡ c.args.self.now.standings =
    c.reserve.ensures.items ∙ (ap (λ (v : Indexed). v.standings) c.self.view_is ∙ c.forget_prepared.ensures.same) in
    kept_none c.add_one.new.holders.entries c.add_one.new.standings.items c.self.inside.prepared none c.add_one.ensures.under
    (subst AreApart (sym c.add_one.ensures.added)
    (apart_push c.reserve.new.self.items _ (subst AreApart (sym c.reserve.ensures.items) c.self.invariant.apart)
    (λ i s at e. c.requires.new (s, (i, subst (λ l. slice_get l i ≡ Some s) items at), e))))

pub returns-clause-ok : goal.returns-clause-ok
returns-clause-ok c = λ old frames f stand at with_f.
    let d = c.args.d.now in
    let keys = c.in_ok-keys.keys.items in
    let items : c.reserve.new.self.items ≡ c.args.self.now.standings =
    c.reserve.ensures.items ∙ (ap (λ (v : Indexed). v.standings) c.self.view_is ∙ c.forget_prepared.ensures.same) in
    subst (StandsFor d frames) (sym c.add_one.ensures.added)
    (stands_push d old frames c.reserve.new.self.items f _ (subst (StandsFor d old) (sym items) stand)
    (record {
      number = sym at.number;
      keys = subst (λ a. AreKeysOf d a f.locals keys) (sym at.at_is)
          (subst (λ l. AreKeysOf d c.args.at l keys) (sym at.locals_are) c.in_ok-keys.ensures);
    }) with_f)
