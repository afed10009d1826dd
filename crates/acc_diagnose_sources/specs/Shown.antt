-- Which statements of a tree are printed, one truth value a statement, in their order: all but each `variant` whose value is
-- collected to 0. A type, and each of its points, stands beside that of the design.
use Rattle.std.specs.Prelude.{Bool, true, not, List, [], ◌∷◌, ◌++◌, map, Option, Some, None}
use Rattle.std.specs.List.{flat_map}
use Rattle.acc_base.specs.declared.forms.Lin.{Lin}
use Rattle.acc_base.specs.declared.designs.Point.{Point}
use Rattle.acc_base.specs.declared.designs.TxType.{TxType}
use Rattle.acc_base.specs.declared.designs.Design.{Design}
use Rattle.acc_parse_syntax.specs.declared.trees.Sum.{Sum}
use Rattle.acc_parse_syntax.specs.declared.trees.PathTree.{PathTree}
use Rattle.acc_parse_syntax.specs.declared.trees.StepTree.{StepTree}
use Rattle.acc_parse_syntax.specs.declared.trees.PointTree.{PointTree}
use Rattle.acc_parse_syntax.specs.declared.trees.TypeTree.{TypeTree}
use Rattle.acc_parse_syntax.specs.declared.trees.DesignTree.{DesignTree}
use Rattle.acc_print.specs.Types.{is_zero}

-- statements that are printed, one an item
abbrev pub each_shown : {T : Type 0} → List T → List Bool
each_shown xs = map (λ x. true) xs

-- one that may be left out
abbrev pub if_shown : {T : Type 0} → Option T → List Bool
if_shown None = []
if_shown (Some x) = true ∷ []

-- items, each beside another
abbrev pub beside : {S T : Type 0} → (S → T → List Bool) → List S → List T → List Bool
beside shown [] ys = []
beside shown (x ∷ xs) [] = []
beside shown (x ∷ xs) (y ∷ ys) = shown x y ++ beside shown xs ys

-- `path` with its guard, the actions, the target
abbrev pub shown_path : PathTree → List Bool
shown_path p = true ∷ (each_shown p.actions ++ (true ∷ []))

-- the word `next` or `undo`, the reads, the paths
abbrev pub shown_step : StepTree → List Bool
shown_step s = true ∷ (each_shown s.reads ++ (shown_path s.first ++ flat_map shown_path s.others))

-- a variant, by its value
abbrev pub shown_variant : Option Sum → Lin → List Bool
shown_variant None l = []
shown_variant (Some s) l = not (is_zero l.coeffs l.constant) ∷ []

abbrev pub shown_point : PointTree → Point → List Bool
shown_point t p =
    true ∷ (shown_variant t.variant p.variant ++ (each_shown t.holds ++ (shown_step t.next ++ shown_step t.undo)))

abbrev pub shown_type : TypeTree → TxType → List Bool
shown_type t ty =
    true ∷ (true ∷ (if_shown t.returns ++ (if_shown t.locals ++ (each_shown t.ensured ++ (each_shown t.repaired
    ++ beside shown_point (t.first ∷ t.others) ty.points)))))

-- a tree's statements, where it stands for the design
unfoldable pub shown : DesignTree → Design → List Bool
shown t d =
    each_shown t.tables ++ (each_shown t.always ++ (beside shown_type t.types d.types ++ (each_shown t.entries ++ each_shown t.hints)))
