-- What the reader's own functions promise each other. No promise of the library cites this page.
use Rattle.std.specs.Prelude.{◌≡◌, List, [], ◌∷◌, ℕ, suc, ◌+◌, ◌*◌, ◌≤◌, ◌<◌, length, get_or, take, Result, Ok, Err}
use Rattle.chains.specs.Limits.{max_settings, max_levels}
use Rattle.chains.specs.Grammar.{Heads}
use Rattle.refusals.specs.Table.{number_of}
use Rattle.refusals.specs.declared.Refused.{Refused}
use Rattle.book.specs.Format.{grammar, entry}
use Rattle.sheet.specs.Reading.{Node, Read, all_settings}
use Rattle.sheet.specs.Stops.{Stop}
use Rattle.sheet.specs.declared.Counts.{Counts}

-- c counts the first nodes of a sheet, and their settings
pub record Standing (b l : List ℕ) (c : Counts) : Type 0 where
  pub within : c.nodes ≤ length l
  pub sum : c.settings ≡ all_settings (grammar b) (take c.nodes l)
  pub low : c.settings ≤ max_settings * c.nodes

-- if at i a node of kind k is due, with so many levels left, and ds after it, then T ds
abbrev pub Awaited : (b l : List ℕ) (i k levels : ℕ) → (List Node → Type 0) → Type 0
Awaited b l i k levels T = (v : ℕ) (ds : List Node) → v + levels ≡ suc max_levels → Read (grammar b) l i ((k, v) ∷ ds) → T ds

-- then reading stops with this refusal
abbrev pub Stopped : (b l : List ℕ) (i k levels : ℕ) → Refused → Type 0
Stopped b l i k levels r = Awaited b l i k levels (λ ds. Stop (grammar b) l (number_of r.refusal) r.place)

-- byte i is a production of kind k, whose entry stands at `at`
pub record Fit (b l : List ℕ) (i k levels at : ℕ) : Type 0 where
  pub there : i < length l
  pub heads : Heads (grammar b) (get_or l i 0) k
  pub levels_left : 0 < levels
  pub place : at ≡ entry b (get_or l i 0)

abbrev pub At : (b l : List ℕ) (i k levels : ℕ) → Result ℕ Refused → Type 0
At b l i k levels (Ok at) = Fit b l i k levels at
At b l i k levels (Err r) = Stopped b l i k levels r

-- one look at a position
pub record Looked (b l : List ℕ) (i k levels : ℕ) (r : Result ℕ Refused) : Type 0 where
  pub case : At b l i k levels r

abbrev pub Past : (b l : List ℕ) (i k levels : ℕ) → Result Counts Refused → Type 0
Past b l i k levels (Ok c) = Standing b l c × Awaited b l i k levels (Read (grammar b) l c.nodes)
Past b l i k levels (Err r) = Stopped b l i k levels r

-- the reading of a whole subtree
pub record Walked (b l : List ℕ) (i k levels : ℕ) (r : Result Counts Refused) : Type 0 where
  pub case : Past b l i k levels r

-- the whole tree is read: nothing more is due after the nodes that c counts
pub record Finished (b l : List ℕ) (c : Counts) : Type 0 where
  pub standing : Standing b l c
  pub nothing_due : Read (grammar b) l c.nodes []
