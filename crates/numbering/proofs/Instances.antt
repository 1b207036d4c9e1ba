-- The visit of a node: its own settings hold their labels, then its children's are numbered.
use mathlib.Core.Path.{◌≡◌, sym, ap₂, subst, ◌∙◌}
use mathlib.Core.List.{List, []}
use Prim.Native.Nat.{ℕ, ◌+◌, ◌≤◌}
use native.Mathlib.Omega.{arith}
use lib.ListN.{length, get_or, take, drop}
use Rattle.lists.proofs.Parts.{length_part}
use Rattle.sheet.specs.Reading.{all_settings}
use Rattle.numbering.specs.Walk.{held, slot_labels, own_held}
use Rattle.numbering.specs.Parts.{grammar_in, tables_in}
use Rattle.numbering.specs.Giving.{labels_known, stamp_at, Holding, HeldOwn, Written, Ready, Instance}
use Rattle.numbering.specs.declared.call.Call.{Call}
use Rattle.numbering.specs.declared.nodes.Node.{Node}
use Rattle.numbering.specs.declared.numbers.Holder.{Holder}
use Rattle.numbering.proofs.Keeping.{unread, first_at, entry_at}
use Rattle.numbering.proofs.Holders.{holding_none}
use Rattle.numbering.proofs.Families.{Naming, naming_done}
use Rattle.numbering.proofs.Trees.{settings_inside}

module _ {x : Call} {nodes : List Node} {i first : ℕ} {g : List ℕ} (r : Ready x nodes i first g) {width : ℕ}
    (ew : width ≡ (grammar_in x).settings ((grammar_in x).left (get_or x.sheet.now i 0))) where
  own_at : (get_or nodes i unread).first_setting ≡ all_settings (grammar_in x) (take i x.sheet.now)
  own_at = sym (first_at nodes i) ∙ r.places_are.each i r.there

  -- the node's own settings stand within the room
  pub ready_fits : (get_or nodes i unread).first_setting + width ≤ length g
  ready_fits = omega (arith, own_at, ew, settings_inside (grammar_in x) x.sheet.now i r.there, r.room)

  -- they are k of all, from the place at on
  module _ {at k : ℕ} (ea : at ≡ (get_or nodes i unread).first_setting) (ek : k ≡ width) where
    pub own_long : length (take k (drop at g)) ≡ width
    own_long = length_part at k g (omega (arith, ready_fits)) ∙ ek

    pub own_written : Written (grammar_in x) x.sheet.now g i (take k (drop at g))
    own_written = sym (ap₂ (λ a b. take b (drop a g)) (ea ∙ own_at) (ek ∙ ew))

    module _ {s e : ℕ} {holders holders₁ : List Holder} (lh : length holders ≡ labels_known) (es : s ≡ i + 2) (ee : e ≡ (get_or nodes i unread).entry)
        (o : HeldOwn x.tables.down.now e s (take k (drop at g)) holders holders₁) where
      holding_own : ((y : ℕ) → stamp_at holders y ≤ i + 1) → (own : List ℕ) → Written (grammar_in x) x.sheet.now g i own
          → Holding (own_held (grammar_in x) (tables_in x) (get_or x.sheet.now i 0) e own) s holders₁
      holding_own h own ow =
          let T = tables_in x in
          let none : Holding [] s holders = holding_none lh (λ y. omega (arith, h y)) in
          let full = o.all [] T.plausible_counts T.feasible_counts T.up none in
          let q : take k (drop at g) ≡ own = sym own_written ∙ ow in
          subst (λ t. Holding t s holders₁) (ap₂ (λ n ns. held (slot_labels T e 0 0 n) ns) (own_long ∙ ew) q) full

      pub instance : {holders₂ : List Holder} {g₂ : List ℕ} {next child j : ℕ} → Naming x nodes i s e first holders₁ g holders₂ g₂ next child j
          → {ks : List ℕ} → ks ≡ (grammar_in x).kids (get_or x.sheet.now i 0) → j ≡ length ks → Instance x nodes i first holders g holders₂ g₂ next
      instance n eks ej = record {
        kept = n.kept ∙ o.kept;
        long = n.long;
        beyond = n.beyond;
        latest = λ h y. omega (arith, (naming_done n r eks ej _ (holding_own h (take k (drop at g)) own_written)).0.latest y);
        given = λ h own ow.
            let (hold, en, puts) = naming_done n r eks ej _ (holding_own h own ow) in
            rw (entry_at nodes i, ← ee) (en, puts);
      }
