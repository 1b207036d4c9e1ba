-- The entries of the two tables while they are written: the states that a production's choices come to, what an entry has from a state, and runs of
-- entries. No promise of the library cites this page.
use Rattle.std.specs.Prelude.{◌≡◌, List, [], ◌∷◌, ℕ, zero, suc, ◌+◌, ◌*◌, ◌≤◌, ◌<◌, length, get_or, take}
use Rattle.lists.specs.Part.{part, place}
use Rattle.chains.specs.Limits.{max_kids}
use Rattle.chains.specs.Labels.{joins}
use Rattle.chains.specs.State.{code_pairs, code_on}
use Rattle.ranks.specs.Entries.{Ranks, choices, choice, labels, none}
use Rattle.members.specs.Sets.{Has, member}
use Rattle.tables.specs.Entries.{picked}
use Rattle.tables.specs.Promise.{Written}
use Rattle.tables.specs.State.{State, Whole, tidied}
use Rattle.tables.specs.Shape.{kind_of, width_of, kinds_from, Sized, AllPlaced}
use Rattle.tables.specs.declared.shape.Shape.{Shape}

-- ── states ──
-- x is a state of a production of shape v: the settings of each slot are there
pub record Ready (v : Shape) (x : List ℕ) : Type 0 where
  pub sized : Sized v
  pub state : State x
  pub whole : (t : ℕ) → t ≤ v.arity → Whole x t (width_of v t)

-- x once the code y is tied to slot t
abbrev pub tied_once : Shape → ℕ → ℕ → List ℕ → List ℕ
tied_once v t y x = joins x (code_pairs t (width_of v t) y)

-- x once the codes ys are tied to the slots from t on
unfoldable pub tied : Shape → ℕ → List ℕ → List ℕ → List ℕ
tied v t [] x = x
tied v t (y ∷ ys) x = tied v (suc t) ys (tied_once v t y x)

-- ── what an entry has from the state x ──
-- the code that x shows on slot t is among those that f has of its kind, counted by d
abbrev pub Listed : (f d : List ℕ) → Shape → ℕ → List ℕ → Type 0
Listed f d v t x = Has f d (kind_of v t) (code_on t (width_of v t) x)

-- and r is its rank there
pub record RankOn (f d : List ℕ) (v : Shape) (t : ℕ) (x : List ℕ) (r : ℕ) : Type 0 where
  pub below : r < get_or d (kind_of v t) 0
  pub is : member f (kind_of v t) r ≡ code_on t (width_of v t) x

-- r is that of child j, from 0 on, or none where there is none
pub record ChildRank (f d : List ℕ) (v : Shape) (x : List ℕ) (j r : ℕ) : Type 0 where
  pub there : j < v.arity → RankOn f d v (suc j) x r
  pub missing : v.arity ≤ j → r ≡ none

-- the byte e is the rank of slot 0
abbrev pub UpByte : (s c : List ℕ) → Shape → List ℕ → List ℕ → Type 0
UpByte s c v x e = RankOn s c v 0 x (get_or e 0 none)

-- the bytes e are the labels, then the children's ranks
pub record DownBytes (f d : List ℕ) (v : Shape) (x e : List ℕ) : Type 0 where
  pub blocks : take labels e ≡ tidied x
  pub ranks : (j : ℕ) → j < max_kids → ChildRank f d v x j (get_or e (labels + j) none)

-- the ranks of the first n children, put over what `out` has from a on
pub record ChildRanks (f d : List ℕ) (v : Shape) (x : List ℕ) (n : ℕ) (out : List ℕ) (a : ℕ) (out' : List ℕ) : Type 0 where
  pub list : List ℕ
  pub many : length list ≡ n
  pub each : (j : ℕ) → j < n → ChildRank f d v x j (get_or list j none)
  pub held : out' ≡ place a list out
  pub long : length out' ≡ length out

-- what is asked of a state, that its entry can be written: the kinds have their places in the sets, and what is to be ranked is there
abbrev pub UpAsks : (s c : List ℕ) → Shape → List ℕ → Type 0
UpAsks s c v x = AllPlaced v s c × Listed s c v 0 x

abbrev pub DownAsks : (f d : List ℕ) → Shape → List ℕ → Type 0
DownAsks f d v x = AllPlaced v f d × ((j : ℕ) → j < v.arity → Listed f d v (suc j) x)

-- ── runs of entries ──
-- l has n entries of w places each, of which the i-th has Q i
pub record Run (w n : ℕ) (Q : ℕ → List ℕ → Type 0) (l : List ℕ) : Type 0 where
  pub long : length l ≡ n * w
  pub each : (i : ℕ) → i < n → Q i (part (i * w) w l)

-- such a run put over what `out` has from a on, up to z
pub record EntriesLaid (w n : ℕ) (Q : ℕ → List ℕ → Type 0) (out : List ℕ) (a : ℕ) (out' : List ℕ) (z : ℕ) : Type 0 where
  pub bytes : List ℕ
  pub run : Run w n Q bytes
  pub held : out' ≡ place a bytes out
  pub long : length out' ≡ length out
  pub ends : z ≡ a + n * w

-- ── the entries of a state ──
-- the members of s with these ranks, tied to the slots from t on, whose kinds are ks
abbrev pub chosen : Shape → ℕ → (s ks rs x : List ℕ) → List ℕ
chosen v t s ks rs x = tied v t (picked s ks rs) x

-- the i-th entry has what P says of the state that the choice with the number i comes to
abbrev pub Choices : (P : List ℕ → List ℕ → Type 0) → Shape → ℕ → (s c ks x : List ℕ) → ℕ → List ℕ → Type 0
Choices P v t s c ks x i e = (rs : List ℕ) → Ranks c ks rs → choice c ks rs ≡ i → P (chosen v t s ks rs x) e

-- the entries of all choices of plausible groupings for the slots from t on
abbrev pub ChoicesLaid : (w : ℕ) (P : List ℕ → List ℕ → Type 0) → Shape → ℕ → (s c x out : List ℕ) → ℕ → List ℕ → ℕ → Type 0
ChoicesLaid w P v t s c x out a out' z = EntriesLaid w (choices c (kinds_from v t)) (Choices P v t s c (kinds_from v t) x) out a out' z

-- what is asked before they are written, where an entry asks A of its state
pub record Choosable (A : List ℕ → Type 0) (v : Shape) (t : ℕ) (s c x : List ℕ) : Type 0 where
  pub ready : Ready v x
  pub placed : AllPlaced v s c
  pub each : (rs : List ℕ) → Ranks c (kinds_from v t) rs → A (chosen v t s (kinds_from v t) rs x)

-- the same for each feasible grouping of the left kind, tied first
abbrev pub joined_left : Shape → (f : List ℕ) → ℕ → List ℕ → List ℕ
joined_left v f u x = tied_once v 0 (member f (kind_of v 0) u) x

abbrev pub left_many : Shape → (d : List ℕ) → ℕ
left_many v d = get_or d (kind_of v 0) 0

abbrev pub AllChoices : (P : List ℕ → List ℕ → Type 0) → Shape → (s c f d ks x : List ℕ) → ℕ → List ℕ → Type 0
AllChoices P v s c f d ks x i e =
    (u : ℕ) (rs : List ℕ) → u < left_many v d → Ranks c ks rs → u * choices c ks + choice c ks rs ≡ i → P (chosen v 1 s ks rs (joined_left v f u x)) e

pub record AllChoosable (A : List ℕ → Type 0) (v : Shape) (s c f d x : List ℕ) : Type 0 where
  pub ready : Ready v x
  pub placed : AllPlaced v s c
  pub left : AllPlaced v f d
  pub each : (u : ℕ) (rs : List ℕ) → u < left_many v d → Ranks c (kinds_from v 1) rs → A (chosen v 1 s (kinds_from v 1) rs (joined_left v f u x))

-- ── the entries of all productions ──
-- the number of entries of the first n productions, of which f has each one's
unfoldable pub so_many : (ℕ → ℕ) → ℕ → ℕ
so_many f zero = 0
so_many f (suc n) = so_many f n + f n

-- each of n productions has its entries behind those of the ones before it, of which the i-th has P p i; and what stands behind all is as it came
pub record Filled (w : ℕ) (f : ℕ → ℕ) (n : ℕ) (P : ℕ → ℕ → List ℕ → Type 0) (out out' : List ℕ) : Type 0 where
  pub each : (p i : ℕ) → p < n → i < f p → P p i (part ((so_many f p + i) * w) w out')
  pub rest : Written (so_many f n * w) out out'
