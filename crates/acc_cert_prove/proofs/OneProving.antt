-- Of a design one thing is told.
use Rattle.std.proofs.Common.{◌≡◌, None, Some, sym, ap, ◌∙◌}
use Rattle.std.specs.Prelude.{◌++◌, codes}
use Rattle.acc_base.specs.declared.sequents.Origin.{Origin}
use Rattle.acc_base.specs.Lines.{line}
use Rattle.acc_oblig_origins.specs.Origins.{origin_text}
use Rattle.acc_cert_prove.specs.declared.proving.Proving.TheVariants.{Proved, Open, Wide}
use Rattle.acc_cert_prove.specs.Laws.{ProvedOnce}

none_some : {X : Type 0} (x : X) → None ≡ Some x → ⊥
none_some x e = cc

some_same : {X : Type 0} (x y : X) → Some x ≡ Some y → x ≡ y
some_same x y e = cc

pub once : ProvedOnce
once d (Proved text) (Proved other) h k = tt
once d (Proved text) (Open other) h k = k.not_all h.closes
once d (Proved text) (Wide other) h k = none_some k.origin (sym h.narrow ∙ k.wide)
once d (Open text) (Proved other) h k = h.not_all k.closes
once d (Open text) (Open other) h k = h.says ∙ sym k.says
once d (Open text) (Wide other) h k = none_some k.origin (sym h.narrow ∙ k.wide)
once d (Wide text) (Proved other) h k = none_some h.origin (sym k.narrow ∙ h.wide)
once d (Wide text) (Open other) h k = none_some h.origin (sym k.narrow ∙ h.wide)
once d (Wide text) (Wide other) h k =
    h.says
    ∙ ap (λ (o : Origin). line (codes "refused wide " ++ origin_text d o)) (some_same h.origin k.origin (sym h.wide ∙ k.wide))
    ∙ sym k.says
