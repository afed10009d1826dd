use Rattle.std.proofs.Common.{◌≡◌, ◌∷◌, [], ◌∙◌, ap, sym, subst}
use Rattle.std.specs.Prelude.{All, reverse}
use Rattle.std.proofs.lemmas.List.{reverse-append}
use Rattle.std.proofs.lemmas.List.Elements.{All-tail}
use Rattle.acc_elim_systems.specs.Repetitions.{AreApart, TellsOf, told_behind}
use Rattle.acc_elim_systems.specs.Systems.{replaced}
use Rattle.acc_elim_systems.proofs.Apart.{step_taken, tells_on}
use Rattle.acc_elim_systems.proofs.systems.replace_all.Goals as goal

pub loop-row-preserved : goal.loop-row-preserved
loop-row-preserved c =
    let row = c.in-Some.row in
    let rest = reverse c.pop.new.self.items in
    let made = c.loop-row.made.items in
    let kept = c.loop-row.kept.items in
    let same : reverse c.loop-row.rest.items ≡ row ∷ rest = ap reverse c.in-Some.ensures.items
    ∙ reverse-append c.pop.new.self.items (row ∷ []) in
    let apart : AreApart (row ∷ rest) = subst AreApart same c.loop-row.invariant.apart in
    let told : All (TellsOf made kept) (row ∷ rest) = subst (All (TellsOf made kept)) same c.loop-row.invariant.told in
    record {
      so_far = step_taken (replaced c.args.unknown c.args.equation.now) kept c.replace.new.kept.items row
          (reverse c.loop-row.rest.items) rest
          same c.in_ok-replace.ensures.value
          ∙ c.loop-row.invariant.so_far;
      apart = apart.1;
      told = tells_on made kept c.replace.new.made.items c.replace.new.kept.items row c.in_ok-replace.ensures.told rest apart.0
          (All-tail (TellsOf made kept) row rest told);
      behind = λ r some. c.in_ok-replace.ensures.behind r c.args.rows.items rest some
          (ap (λ rs. told_behind c.args.unknown kept rs r) (sym same) ∙ c.loop-row.invariant.behind r some);
    }
