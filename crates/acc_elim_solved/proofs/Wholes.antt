-- The point that an elimination gives meets the relations that it began with.
use Rattle.std.proofs.Common.{ℕ, ◌<◌, List, [], ◌∷◌, sym, subst, arith}
use Rattle.std.specs.Prelude.{All, reverse}
use Rattle.std.proofs.lemmas.List.Elements.{All-nil, All-head, All-tail, All-cons}
use Rattle.acc_rows.specs.declared.rows.Row.{Row}
use Rattle.acc_elim_systems.specs.declared.systems.Reduced.{Reduced}
use Rattle.acc_elim_systems.specs.declared.systems.Bounded.{Bounded}
use Rattle.acc_base.specs.Computing.{chain, steps}
use Rattle.acc_elim_systems.specs.Made.{Ordered}
use Rattle.acc_base.specs.Items.{numbers_from}
use Rattle.acc_elim_systems.specs.Systems.{admitted, set_aside, whole, crossed, unbounded, eliminated}
use Rattle.acc_elim_points.specs.Points.{placed, placed_by, zeros, point_of}
use Rattle.acc_elim_solved.proofs.Values.{Holds, holds_chain, holds_weaker}
use Rattle.acc_elim_solved.proofs.Mixes.{Among}
use Rattle.acc_elim_solved.proofs.Admits.{Met, admitted_holds, Adds, adds_steps}
use Rattle.acc_elim_solved.proofs.Asides.{MeetsAt, Fit}
use Rattle.acc_elim_solved.proofs.Stages.{nothing_left, not_equal, Later, first_stage}
use Rattle.acc_elim_solved.proofs.Crossings.{Between, Found, second_stage}

module _ (n : ℕ) where
  abbrev pub Readable : Row → Type 0
  Readable r = Ordered r × Among n r

  begin : (rows : List Row) → All Readable rows → Holds (steps admitted [] rows) (Adds (Fit n 0 []) Met [] rows)
  begin rows all =
      adds_steps (Fit n 0 []) Met Readable admitted
      (λ rs r fits k. admitted_holds (Fit n 0 []) rs r fits
      (λ some. record {
        ordered = k.0;
        among = k.1;
        some = some;
        clear = λ w l out. absurd (none w l);
        equal = λ e w l. absurd
            (none w l);
      })) rows [] all (All-nil (Fit n 0 []))
    where
      none : (w : ℕ) → w < 0 → ⊥
      none w l = omega (arith, l)

  between : (left : List ℕ) (rows : List Row) → All (Fit n n left) rows → All (Between n left) rows
  between left [] all = All-nil (Between n left)
  between left (r ∷ rs) all =
      let fit = All-head (Fit n n left) r rs all in
      All-cons (Between n left) r rs (record {
        ordered = fit.ordered;
        among = fit.among;
        some = fit.some;
        unequal = not_equal r.equal
            (λ e. nothing_left n r fit.ordered fit.among fit.some (fit.equal e));
        clear = fit.clear;
      })
      (between left rs (All-tail (Fit n n left) r rs all))

  pub point_meets : (rows : List Row) → All Readable rows → Holds (chain (eliminated n rows) (point_of n)) (λ p. MeetsAt n p rows)
  point_meets rows all =
      holds_chain (eliminated n rows) (point_of n) (λ s. Holds (point_of n s) (λ p. MeetsAt n p rows)) (λ p. MeetsAt n p rows) ended
      (λ s h. h)
    where
      ended : Holds (eliminated n rows) (λ s. Holds (point_of n s) (λ p. MeetsAt n p rows))
      ended =
          holds_chain (steps admitted [] rows) _ (Adds (Fit n 0 []) Met [] rows) _ (begin rows all) (λ system adds.
          holds_chain (steps set_aside (whole system) (numbers_from 0 n)) _ (Later n n (whole system)) _
          (first_stage n n 0 (whole system) (omega arith) (record { rows = adds.0; left = All-nil (λ w. w < 0); apart = tt }))
          (λ r later.
          holds_chain (steps crossed (unbounded r.rows) r.left) _ (Found n (unbounded r.rows)) _
          (second_stage n r.left (unbounded r.rows) later.begun.apart (between r.left r.rows later.begun.rows))
          (λ b found. backwards system adds r later b found)))
        where
          backwards : (system : List Row) → Adds (Fit n 0 []) Met [] rows system → (r : Reduced) → Later n n (whole system) r
              → (b : Bounded) → Found n (unbounded r.rows) b
              → Holds (point_of n (record { aside = r.aside; bounds = b.bounds })) (λ p. MeetsAt n p rows)
          backwards system adds r later b found =
              holds_chain (steps placed (zeros n) (reverse b.bounds)) _ (λ p. MeetsAt n p r.rows) (λ p. MeetsAt n p rows)
              (subst (λ zs. Holds (steps placed (zeros n) (reverse zs)) (λ p. MeetsAt n p r.rows)) (sym found.is) found.back) (λ p m.
              subst (λ zs. Holds (steps placed_by p (reverse zs)) (λ q. MeetsAt n q rows)) (sym later.is) (
              holds_weaker (steps placed_by p (reverse later.es)) (λ q. MeetsAt n q system) (λ q. MeetsAt n q rows)
              (λ q k. record {
                f = k.f;
                D = k.D;
                above = k.above;
                worths = k.worths;
                long = k.long;
                met =
                    (adds.1 k.f k.D k.above k.met).1;
              }) (later.back p m)))
