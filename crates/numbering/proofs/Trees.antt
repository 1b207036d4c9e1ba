-- The sheet of a tree: its bytes are the nodes' productions, and each node's settings have their own places among all.
use mathlib.Core.Path.{◌≡◌, sym, ap, subst, ◌∙◌}
use mathlib.Core.List.{List, [], ◌∷◌}
use Prim.Native.Nat.{ℕ, zero, suc, ◌+◌, ◌≤◌, ◌<◌}
use native.Mathlib.Omega.{arith}
use lib.ListN.{length, get_or, take}
use lib.Seq.{take_all}
use Rattle.chains.specs.Limits.{max_settings}
use Rattle.chains.specs.Grammar.{Grammar}
use Rattle.chains.specs.Tree.{Bush, size, Kinded, Sub}
use Rattle.chains.proofs.Nodes.{flat_length, sub_all, sub_flat, sub_in}
use Rattle.chains.proofs.WellKinded.{sub_kinded}
use Rattle.chains.proofs.Read.{one_forest}
use Rattle.book.specs.Format.{grammar, prods}
use Rattle.bookcheck.specs.Accepted.{Accepted}
use Rattle.sheet.specs.Reading.{all_settings}
use Rattle.numbering.specs.Promise.{TreeOf}

-- one sheet, one tree
pub one_tree : {G : Grammar} {l : List ℕ} (t u : TreeOf G l) → t.tree ≡ u.tree
one_tree {G} t u = one_forest G (G.start ∷ []) t.tree u.tree t.kinded u.kinded (t.reads ∙ sym u.reads)

module _ {G : Grammar} {l : List ℕ} (t : TreeOf G l) where
  pub tree_size : size t.tree ≡ length l
  tree_size = sym (flat_length t.tree) ∙ ap length t.reads

  -- node i: its production is byte i, and its children are as that production says
  pub record Node (i : ℕ) : Type 0 where
    pub below : Bush
    pub is_node : Sub t.tree 0 i (get_or l i 0) below
    pub known : get_or l i 0 < G.prods
    pub kinded : Kinded G below (G.kids (get_or l i 0))
    pub inside : i + size below < length l

  pub byte_is : (i q : ℕ) (ds : Bush) → Sub t.tree 0 i q ds → q ≡ get_or l i 0
  byte_is i q ds s = sym (sub_flat t.tree i q ds 0 s) ∙ ap (λ m. get_or m i 0) t.reads

  pub node_at : (i : ℕ) → i < length l → Node i
  node_at i h =
      let (q, ds, s) = sub_all t.tree 0 i (omega (arith, tree_size)) in
      let e = byte_is i q ds s in
      let s' : Sub t.tree 0 i (get_or l i 0) ds = subst (λ p. Sub t.tree 0 i p ds) e s in
      let (k, n) = sub_kinded G t.tree (G.start ∷ []) 0 i (get_or l i 0) ds t.kinded s' in
      record { below = ds; is_node = s'; known = k; kinded = n; inside = omega (arith, (sub_in t.tree 0 i (get_or l i 0) ds s').1, tree_size) }

-- ── settings ──
-- those of an earlier node stand before those of a later one
pub settings_before : (G : Grammar) (l : List ℕ) (m n : ℕ) → m < n → m < length l → all_settings G (take m l) + G.settings (G.left (get_or l m 0)) ≤ all_settings G (take n l)
unfolding all_settings
settings_before G [] m n h k = absurd (omega arith)
settings_before G (p ∷ l) zero zero h k = absurd (omega arith)
settings_before G (p ∷ l) zero (suc n) h k = omega arith
settings_before G (p ∷ l) (suc m) zero h k = absurd (omega arith)
settings_before G (p ∷ l) (suc m) (suc n) h k = let r = settings_before G l m n (omega arith) (omega arith) in omega arith

pub settings_inside : (G : Grammar) (l : List ℕ) (m : ℕ) → m < length l → all_settings G (take m l) + G.settings (G.left (get_or l m 0)) ≤ all_settings G l
settings_inside G l m h = rw (take_all (length l) l (omega arith)) at (settings_before G l m (length l) h h)

-- a node of an accepted book has few
pub few_settings : {b : List ℕ} → Accepted b → (p : ℕ) → p < prods b → (grammar b).settings ((grammar b).left p) ≤ max_settings
few_settings {b} a p h = a.lawful.few_settings ((grammar b).left p) (a.lawful.left_in p h)
