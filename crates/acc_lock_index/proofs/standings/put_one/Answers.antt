use Rattle.std.proofs.Common.{◌≡◌, ◌∙◌, ap, sym, subst, List}
use Rattle.acc_lock_holders.specs.Keys.{Key}
use Rattle.acc_lock_holders.specs.Numbers.{with_number, without_number}
use Rattle.acc_lock_holders.specs.Entries.{ChangesAll}
use Rattle.acc_lock_index.specs.Indexed.{Standing, IsPlaceOf}
use Rattle.acc_lock_index.proofs.Changing.{put_in, gone_is}
use Rattle.acc_lock_index.proofs.standings.put_one.Goals as goal

pub returns-in-Some-clause-under : goal.returns-in-Some-clause-under
returns-in-Some-clause-under c =
    let old = c.args.standings.now.items in
    let next = c.args.next in
    let t = c.next.inside.t in
    let es = c.args.holders.now.entries in
    let fs = c.take_out_of_all.new.holders.entries in
    let gs = c.add_to_all.new.holders.entries in
    let place = c.in-Some.place in
    let at = subst (λ ss. IsPlaceOf ss t place) c.as_slice.ensures.value c.in-Some.ensures in
    let g = at.0 in
    let number : t ≡ next.t = ap (λ (s : Standing). s.t) c.next.view_is in
    let gone : c.index-gone.result.now ≡ g = gone_is old place g c.index-gone.result.now at.1 c.index-gone.ensures in
    let keys : c.as_slice-in-Some.result.now ≡ g.keys =
    c.as_slice-in-Some.ensures.value ∙ (ap (λ (s : Standing). s.keys) c.gone.view_is ∙ ap (λ (s : Standing). s.keys) gone) in
    let new_keys : c.as_slice-in-Some-2.result.now ≡ next.keys =
    c.as_slice-in-Some-2.ensures.value ∙ ap (λ (s : Standing). s.keys) c.next.view_is in
    let out : ChangesAll (without_number next.t) g.keys es fs =
    subst (λ n. ChangesAll (without_number n) g.keys es fs) number
    (subst (λ (ks : List Key). ChangesAll (without_number t) ks es fs) keys c.take_out_of_all.ensures.taken) in
    let into : ChangesAll (with_number next.t) next.keys fs gs =
    subst (λ n. ChangesAll (with_number n) next.keys fs gs) number
    (subst (λ (ks : List Key). ChangesAll (with_number t) ks fs gs) new_keys c.add_to_all.ensures) in
    put_in old place g at.1 c.requires.apart es c.requires.under next (sym (at.2 ∙ number)) fs gs c.forget_all.new.holders.entries
    out into c.forget_all.ensures.same
