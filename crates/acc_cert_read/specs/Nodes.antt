-- The shape of multipliers, axioms, nodes and proofs.
use Rattle.std.specs.Prelude.{ℕ, List, [], ◌∷◌, Option, Some, None}
use Rattle.serde_json.specs.Data.{Data}
use Rattle.acc_base.specs.declared.forms.Lin.{Lin}
use Rattle.acc_base.specs.declared.forms.Unknown.{Unknown}
use Rattle.acc_farkas.specs.declared.refuting.Mults.{Mults}
use Rattle.acc_axioms.specs.Kinds.{kind_numbered}
use Rattle.acc_axioms.specs.declared.kinds.AxiomKind.{AxiomKind}
use Rattle.acc_axioms.specs.declared.kinds.AxiomKind.TheVariants as kind
use Rattle.acc_axioms.specs.declared.nodes.Schema.{Schema}
use Rattle.acc_axioms.specs.declared.nodes.Schema.TheVariants as schema
use Rattle.acc_axioms.specs.declared.nodes.Node.{Node}
use Rattle.acc_axioms.specs.declared.nodes.Node.TheVariants as node
use Rattle.acc_axioms.specs.declared.nodes.Proof.{Proof}
use Rattle.acc_cert_read.specs.declared.words.NodeWord.{NodeWord}
use Rattle.acc_cert_read.specs.declared.words.NodeWord.TheVariants as word
use Rattle.acc_cert_read.specs.Parts.{Part, Off, and_then, gives, field, ends, one, two, three, list_of}
use Rattle.acc_cert_read.specs.Forms.{index_of, wide_of, word_of, lins_of, unknown_of, form_of}
use Rattle.acc_cert_read.specs.Words.{node_word}

abbrev pub mults_of : Data → Part Mults
mults_of d = gives (λ ps. record { of = ps }) (list_of (two 0 index_of wide_of) d)

-- ---- the arguments of an axiom

abbrev pub by_key : (ℕ → List Lin → Schema) → Data → Part Schema
by_key make d = gives (λ p. make p.0 p.1) (two 0 index_of lins_of d)

abbrev pub by_key_and_number : (ℕ → List Lin → ℕ → Schema) → Data → Part Schema
by_key_and_number make d = gives (λ p. make p.0 p.1 p.2) (three 0 index_of lins_of index_of d)

abbrev pub by_unknown : (Unknown → Schema) → Data → Part Schema
by_unknown make d = gives make (one 0 unknown_of d)

-- those of an axiom of a kind
abbrev pub schema_of : AxiomKind → Data → Part Schema
schema_of kind.Has d = by_key schema.Has d
schema_of kind.Count d = by_key schema.Count d
schema_of kind.Front d = by_key_and_number schema.Front d
schema_of kind.Same d = gives (λ p. schema.Same p.0 p.1) (two 0 unknown_of unknown_of d)
schema_of kind.NoCol d = by_key_and_number schema.NoCol d
schema_of kind.NoSum d = by_key_and_number schema.NoSum d
schema_of kind.OneCount d = by_key schema.OneCount d
schema_of kind.OneSum d = by_key_and_number schema.OneSum d
schema_of kind.Opened d = by_unknown schema.Opened d
schema_of kind.Shut d = gives (λ p. schema.Shut p.0 p.1 p.2) (three 0 unknown_of index_of index_of d)
schema_of kind.Empty d = by_unknown schema.Empty d
schema_of kind.Fresh d = by_key schema.Fresh d

-- the number itself is off where there is no such axiom
abbrev pub schema_by : Option AxiomKind → Data → Part Schema
schema_by None d = Off (1 ∷ [])
schema_by (Some k) d = field 2 (schema_of k) d

abbrev pub schema_at : ℕ → Data → Part Schema
schema_at n d = schema_by (kind_numbered n) d

-- ---- nodes

-- an axiom with the multipliers that show its facts
abbrev pub shown_by : Schema → Data → Part Node
shown_by x d = and_then (field 3 (list_of mults_of) d) (λ ms. ends 4 (node.Axiom x ms) d)

abbrev pub axiom_of : Data → Part Node
axiom_of d = and_then (field 1 index_of d) (λ n. and_then (schema_at n d) (λ x. shown_by x d))

-- what stands behind the word
abbrev pub node_rest : Option NodeWord → Data → Part Node
node_rest None d = Off (0 ∷ [])
node_rest (Some word.Split) d = gives node.Split (one 1 form_of d)
node_rest (Some word.Inst) d = gives (λ p. node.Inst p.0 p.1 p.2) (three 1 index_of lins_of (list_of mults_of) d)
node_rest (Some word.Axiom) d = axiom_of d
node_rest (Some word.Leaf) d = gives node.Leaf (one 1 mults_of d)

abbrev pub node_of : Data → Part Node
node_of d = and_then (field 0 word_of d) (λ w. node_rest (node_word w) d)

abbrev pub proof_of : Data → Part Proof
proof_of d = gives (λ ns. record { nodes = ns }) (list_of node_of d)
