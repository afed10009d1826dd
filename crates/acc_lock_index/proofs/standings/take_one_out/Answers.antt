use Rattle.std.proofs.Common.{◌≡◌, ◌∙◌, ap, sym, subst, List}
use Rattle.acc_lock_holders.specs.Keys.{Key}
use Rattle.acc_lock_holders.specs.Numbers.{without_number}
use Rattle.acc_lock_holders.specs.Entries.{ChangesAll}
use Rattle.acc_lock_index.specs.Indexed.{Standing, AreUnder, IsPlaceOf}
use Rattle.acc_lock_index.proofs.Changing.{left_out, gone_is}
use Rattle.acc_lock_index.proofs.standings.take_one_out.Goals as goal

pub returns-in-Some-clause-under : goal.returns-in-Some-clause-under
returns-in-Some-clause-under c =
    let old = c.args.standings.now.items in
    let t = c.args.t in
    let es = c.args.holders.now.entries in
    let fs = c.take_out_of_all.new.holders.entries in
    let place = c.in-Some.place in
    let at = subst (λ ss. IsPlaceOf ss t place) c.as_slice.ensures.value c.in-Some.ensures in
    let g = at.0 in
    let gone : c.remove-gone.result ≡ g = gone_is old place g c.remove-gone.result at.1 c.remove-gone.ensures.value in
    let keys : c.as_slice-in-Some.result.now ≡ g.keys =
    c.as_slice-in-Some.ensures.value ∙ (ap (λ (s : Standing). s.keys) c.gone.view_is ∙ ap (λ (s : Standing). s.keys) gone) in
    let taken : ChangesAll (without_number g.t) g.keys es fs =
    subst (λ n. ChangesAll (without_number n) g.keys es fs) (sym at.2)
    (subst (λ (ks : List Key). ChangesAll (without_number t) ks es fs) keys c.take_out_of_all.ensures.taken) in
    subst (λ ss. AreUnder ss c.forget_all.new.holders.entries) (sym c.remove-gone.ensures.items)
    (left_out old place g at.1 c.requires.apart es c.requires.under fs c.forget_all.new.holders.entries taken c.forget_all.ensures.same)
