-- The picture of a design, in DOT, the language of Graphviz: a cluster a type, with a box a point, and its two ends; an arrow a path, from
-- the point of its step to where it leads, dashed where the step undoes; and a dotted red arrow an entry, from the point that is held to
-- the point whose step waits for it. Names are letters, digits and `_`, so nothing in quotes needs a sign before it.
use Rattle.std.specs.Prelude.{ℕ, suc, List, [], ◌∷◌, ◌++◌, slice_get, codes}
use Rattle.std.specs.List.{flat_map}
use Rattle.std.specs.Fmt.{decimal}
use Rattle.acc_base.specs.Lines.{line, at_text, point_name}
use Rattle.acc_base.specs.declared.steps.Path.{Path}
use Rattle.acc_base.specs.declared.steps.Target.{Target}
use Rattle.acc_base.specs.declared.steps.Target.TheVariants as target
use Rattle.acc_base.specs.declared.designs.At.{At}
use Rattle.acc_base.specs.declared.designs.Side.{Side}
use Rattle.acc_base.specs.declared.designs.Side.TheVariants as side
use Rattle.acc_base.specs.declared.designs.Point.{Point}
use Rattle.acc_base.specs.declared.designs.TxType.{TxType}
use Rattle.acc_base.specs.declared.designs.Entry.{Entry}
use Rattle.acc_base.specs.declared.designs.Design.{Design}
use Rattle.acc_print.specs.Lists.{listed}
use Rattle.acc_print.specs.Designs.{scope_at, pair_text}

-- a text in quotes
unfoldable pub quoted : List ℕ → List ℕ
quoted text = 34 ∷ text ++ 34 ∷ []

-- ---- nodes

-- a point of a type, as TYPE.POINT
unfoldable pub point_node : List ℕ → List ℕ → List ℕ
point_node type point = 34 ∷ type ++ 46 ∷ point ++ 34 ∷ []

-- two words in quotes: of an end of a type's transactions, TYPE END
unfoldable pub two_words : List ℕ → List ℕ → List ℕ
two_words first second = 34 ∷ first ++ 32 ∷ second ++ 34 ∷ []

-- a box with the point's name
unfoldable pub point_line : List ℕ → Point → List ℕ
point_line type p = line (point_node type p.name ++ (codes " [label=" ++ (quoted p.name ++ codes "]")))

-- the end's word, without a box
unfoldable pub end_line : List ℕ → List ℕ → List ℕ
end_line type ending = line (two_words type ending ++ (codes " [label=" ++ (quoted ending ++ codes ", shape=plaintext]")))

-- ---- paths

-- where a path of this point leads: to a point or an end; a refusal turns back where it stands
abbrev pub target_node : TxType → Point → Target → List ℕ
target_node t p (target.Point n) = point_node t.name (point_name (slice_get t.points n))
target_node t p target.Commit = two_words t.name (codes "committed")
target_node t p target.Undone = two_words t.name (codes "compensated")
target_node t p (target.Refuse n) = point_node t.name p.name

-- what a refusal is told with
abbrev pub refusal_text : Target → List ℕ
refusal_text (target.Point n) = []
refusal_text target.Commit = []
refusal_text target.Undone = []
refusal_text (target.Refuse n) = codes " refuse " ++ decimal n

abbrev pub side_word : Side → List ℕ
side_word side.Next = codes "next"
side_word side.Undo = codes "undo"

abbrev pub side_style : Side → List ℕ
side_style side.Next = codes "]"
side_style side.Undo = codes ", style=dashed]"

-- the step and the path's number, as next 1, in quotes
unfoldable pub path_label : Side → ℕ → Target → List ℕ
path_label s number end = 34 ∷ side_word s ++ (32 ∷ decimal number ++ (refusal_text end ++ 34 ∷ []))

-- an arrow
unfoldable pub path_line : TxType → Point → Side → ℕ → Path → List ℕ
path_line t p s number path =
    line (point_node t.name p.name ++ (codes " -> " ++ (target_node t p path.target ++ (codes " [label=" ++ (
    path_label s number path.target ++ side_style s)))))

-- arrows of paths, the first of this number
abbrev pub path_lines_from : TxType → Point → Side → ℕ → List Path → List ℕ
path_lines_from t p s number [] = []
path_lines_from t p s number (path ∷ paths) = path_line t p s number path ++ path_lines_from t p s (suc number) paths

-- the arrows of both steps of a point
unfoldable pub point_arrows : TxType → Point → List ℕ
point_arrows t p = path_lines_from t p side.Next 1 p.next.paths ++ path_lines_from t p side.Undo 1 p.undo.paths

-- ---- types, entries, designs

unfoldable pub cluster_line : List ℕ → List ℕ
cluster_line name = codes "subgraph " ++ (two_words (codes "cluster") name ++ line (codes " {"))

unfoldable pub label_line : List ℕ → List ℕ
label_line name = line (codes "label=" ++ quoted name)

-- how a type begins, its nodes
unfoldable pub type_nodes : TxType → List ℕ
type_nodes t =
    flat_map (point_line t.name) t.points ++ (end_line t.name (codes "committed") ++ end_line t.name (codes "compensated"))

unfoldable pub type_head : TxType → List ℕ
type_head t = cluster_line t.name ++ label_line t.name

unfoldable pub type_picture : TxType → List ℕ
type_picture t = type_head t ++ (type_nodes t ++ (flat_map (point_arrows t) t.points ++ line (codes "}")))

-- the step, and which locals are equal where it waits, as next : x = y, in quotes
unfoldable pub entry_label : Design → Entry → List ℕ
entry_label d e =
    34 ∷ side_word e.side ++ (
    listed (pair_text (scope_at d e.held).names (scope_at d e.step).names) (codes " : ") e.pairs ++ 34 ∷ [])

-- a point of a design, as TYPE.POINT
unfoldable pub at_node : Design → At → List ℕ
at_node d at = 34 ∷ at_text d at ++ 34 ∷ []

unfoldable pub entry_arrow : Design → Entry → List ℕ
entry_arrow d e =
    at_node d e.held ++ (codes " -> " ++ (at_node d e.step ++ (codes " [label=" ++ (
    entry_label d e ++ line (codes ", style=dotted, color=red, fontcolor=red, constraint=false]")))))

-- how the picture begins
unfoldable pub opening_lines : List ℕ
opening_lines = line (codes "digraph design {") ++ (line (codes "rankdir=LR") ++ line (codes "node [shape=box]"))

-- the whole picture
unfoldable pub drawn : Design → List ℕ
drawn d = opening_lines ++ (flat_map type_picture d.types ++ (flat_map (entry_arrow d) d.entries ++ line (codes "}")))
