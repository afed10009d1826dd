-- A small design by which the definitions are tried: cells are made, and a counter reads a cell in one step and writes it in the next.
use Rattle.std.specs.Prelude.{◌≡◌, ℕ, true, false, List, [], ◌∷◌, codes, ℤ, pos, negsuc, None}
use Rattle.std.specs.List.{flat_map}
use Rattle.acc_base.specs.declared.forms.Lin.{Lin}
use Rattle.acc_base.specs.declared.forms.LinRel.{LinRel}
use Rattle.acc_base.specs.declared.steps.Read.TheVariants as read
use Rattle.acc_base.specs.declared.steps.Action.{Action}
use Rattle.acc_base.specs.declared.steps.Action.TheVariants as action
use Rattle.acc_base.specs.declared.steps.Target.{Target}
use Rattle.acc_base.specs.declared.steps.Target.TheVariants as target
use Rattle.acc_base.specs.declared.steps.Path.{Path}
use Rattle.acc_base.specs.declared.steps.Step.{Step}
use Rattle.acc_base.specs.declared.designs.Point.{Point}
use Rattle.acc_base.specs.declared.designs.TxType.{TxType}
use Rattle.acc_base.specs.declared.designs.Design.{Design}
use Rattle.acc_base.specs.declared.machines.Call.{Call}
use Rattle.acc_base.specs.declared.tables.Row.{Row}
use Rattle.acc_base.specs.Plays.{Play, Told, plain, opening, Plays, play_after}
use Rattle.acc_base.specs.Lines.{line, play_text}

-- a number, and a variable plus a number
abbrev pub num : ℤ → Lin
num c = record { coeffs = []; constant = c }

abbrev pub var_plus : ℕ → ℤ → Lin
var_plus x c = record { coeffs = (x, pos 1) ∷ []; constant = c }

abbrev pub is_zero : Lin → LinRel
is_zero l = record { lin = l; equal = true }

abbrev pub path : List LinRel → List Action → Target → Path
path guard actions target = record { guard = guard; actions = actions; target = target }

abbrev pub nothing : Step
nothing = record { reads = []; paths = path [] [] target.Undone ∷ [] }

abbrev pub make : TxType
make =
    record {
      name = codes "make";
      params = 1;
      locals = codes "a" ∷ codes "p" ∷ [];
      points = record {
        name = codes "start";
        clauses = [];
        next = record {
          reads = read.Has 1 0 (var_plus 0 (pos 0) ∷ []) ∷ [];
          paths = path (is_zero (var_plus 1 (pos 0)) ∷ [])
              (action.Put 0 (var_plus 0 (pos 0) ∷ []) (num (pos 0) ∷ []) ∷ []) target.Commit ∷ path [] [] (target.Refuse 1) ∷ [];
        };
        undo = nothing;
        variant = num (pos 0);
      } ∷ [];
      posts = [];
      repairs = [];
      returns = [];
      limit = 1;
    }

abbrev pub bump_start : Point
bump_start =
    record {
      name = codes "start";
      clauses = [];
      next = record {
        reads = read.Has 1 0 (var_plus 0 (pos 0) ∷ []) ∷ read.Col 2 0 (var_plus 0 (pos 0) ∷ []) 0 ∷ [];
        paths = path (is_zero (var_plus 1 (negsuc 0)) ∷ []) [] (target.Point 1) ∷ path [] [] (target.Refuse 1) ∷ [];
      };
      undo = nothing;
      variant = num (pos 0);
    }

abbrev pub bump_mid : Point
bump_mid =
    record {
      name = codes "mid";
      clauses = [];
      next = record {
        reads = [];
        paths = path [] (action.Set 0 (var_plus 0 (pos 0) ∷ []) 0 (var_plus 2 (pos 1)) ∷ []) target.Commit
            ∷ [];
      };
      undo = nothing;
      variant = num (pos 0);
    }

abbrev pub bump : TxType
bump =
    record {
      name = codes "bump";
      params = 1;
      locals = codes "a" ∷ codes "p" ∷ codes "v" ∷ [];
      points = bump_start ∷ bump_mid ∷ [];
      posts = [];
      repairs = [];
      returns = 2 ∷ [];
      limit = 2;
    }

abbrev pub cells : Design
cells =
    record {
      tables = record { name = codes "CELL"; width = 1; cols = codes "n" ∷ []; own = false } ∷ [];
      always = [];
      types = make ∷ bump ∷ [];
      entries = [];
      hints = [];
    }

abbrev pub call_of : ℕ → ℤ → Call
call_of ty a = record { ty = ty; params = a ∷ []; tape = []; ask = None }

-- on the plain machine the calls are played in this order, this is printed of the play, and these rows are left
pub record PlaysCells (calls : List Call) (order : List ℕ) (text : List ℕ) (rows : List Row) : Type 0 where
  pub mentions : List (Told × Play)
  pub is_played : Plays (plain cells) calls order mentions
  pub text_is : play_text cells calls mentions ≡ text
  pub rows_are : (play_after (opening calls) mentions).world.rows ≡ rows

-- the texts, each ended by a line feed
abbrev pub lines_of : List (List ℕ) → List ℕ
lines_of texts = flat_map line texts

-- a cell is made, and two counters of it run
abbrev pub three_calls : List Call
three_calls = call_of 0 (pos 1) ∷ call_of 1 (pos 1) ∷ call_of 1 (pos 1) ∷ []

abbrev pub cell_row : ℕ → ℕ → Row
cell_row key n = record { table = 0; key = record { parts = pos key ∷ [] }; cols = pos n ∷ [] }
