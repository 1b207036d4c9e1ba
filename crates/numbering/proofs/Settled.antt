-- The exits of a sheet that fits its book and its room: 25, or what is written.
use mathlib.Core.Path.{◌≡◌, refl, sym, ap₂, subst}
use mathlib.Core.Bool.{Bool, true, false}
use mathlib.Core.List.{List, [], ◌∷◌}
use Prim.Native.Nat.{ℕ}
use lib.ListN.{length}
use Rattle.std.specs.Prelude.{◌↔◌, Ok, Err}
use Rattle.refusals.specs.declared.Refused.{Refused}
use Rattle.refusals.specs.declared.Refusal.TheVariants.{BadTables}
use Rattle.book.specs.Format.{grammar}
use Rattle.sheet.specs.Reading.{all_settings}
use Rattle.sheet.specs.declared.Counts as sheet
use Rattle.admission.specs.Refusals.{AdmissionDue}
use Rattle.admission.specs.Answer as admission
use Rattle.numbering.specs.Walk.{Tables}
use Rattle.numbering.specs.Promise.{Lent, lent, BigCount, Grouped, CallDue}
use Rattle.numbering.specs.Answer.{said}
use Rattle.numbering.specs.Unrefused.{Unrefused}
use Rattle.numbering.specs.Parts.{grammar_in, tables_in, Choice}
use Rattle.numbering.specs.Giving.{Walkable, Filled}
use Rattle.numbering.specs.Admitting.{measures, Clear}
use Rattle.numbering.specs.declared.call.Call.{Call}
use Rattle.numbering.specs.declared.nodes.Node.{Node}
use Rattle.numbering.proofs.Calls.{tree_in}
use Rattle.numbering.proofs.Due.{refuses_early, refuses_nothing, refuses_big, refuses_read, nothing_applies}
use Rattle.admission.specs.Refusals.{of_sheet}

-- what the admission said of the slices that it measured
module _ {b l : List ℕ} (T : Tables) (m : Lent) where
  pub let_in : {c : sheet.Counts} → AdmissionDue b l (measures T m) (admission.said (Ok c)) → Clear b l T m × (c.nodes ≡ length l) × (c.settings ≡ all_settings (grammar b) l)
  let_in due = refuses_nothing due

  pub kept_out : (r : Refused) → AdmissionDue b l (measures T m) (admission.said (Err r)) → CallDue b l T m (said (Err r)) m
  kept_out r due = (refuses_early due, refl)

pub unrefused : {b l : List ℕ} {T : Tables} {m : Lent} → Clear b l T m → Unrefused b l
unrefused clear f a = clear.none f.0 f.1 (of_sheet a)

-- no count is too big
not_big : {big : Bool} {P : Type 0} → ((big ≡ true) ↔ P) → big ≡ false → P → ⊥
not_big tells small p = let t = tells.1 p in cc

pub settled_big : {b l : List ℕ} {T : Tables} {m : Lent} → Clear b l T m → {big : Bool} → ((big ≡ true) ↔ BigCount (grammar b) T) → big ≡ true
    → (z : Refused) → z ≡ record { refusal = BadTables; place = 0 } → CallDue b l T m (said (Err z)) m
settled_big {b} {l} {T} {m} clear tells e z ez = subst (λ (y : Refused). CallDue b l T m (said (Err y)) m) (sym ez) (refuses_big clear (tells.0 e), refl)

pub settled_bad : {x : Call} {m : Lent} → Clear x.book.now x.sheet.now (tables_in x) m → {big : Bool} → ((big ≡ true) ↔ BigCount (grammar_in x) (tables_in x)) → big ≡ false
    → {nodes : List Node} {z : Refused} → Choice x nodes (Err z) → CallDue x.book.now x.sheet.now (tables_in x) m (said (Err z)) m
settled_bad {x} clear tells small {z = z} choice =
    let t = tree_in x in
    let (is, turn, bad, first) = choice.case t in
    rw is (refuses_read clear (not_big tells small) t z.place turn bad first, refl)

pub settled_walkable : {x : Call} {nodes : List Node} → Choice x nodes (Ok (tt {0})) → Walkable x nodes
settled_walkable {x} choice =
    let t = tree_in x in
    let (none, chosen) = choice.case t in
    record { tree_of = t; ended = chosen.ended; entered = chosen.entered }

-- everything is written
pub settled_well : {x : Call} {n g : List ℕ} → Clear x.book.now x.sheet.now (tables_in x) (lent n g) → {big : Bool} → ((big ≡ true) ↔ BigCount (grammar_in x) (tables_in x)) → big ≡ false
    → {nodes : List Node} → Choice x nodes (Ok (tt {0})) → {count settings : ℕ} → count ≡ length x.sheet.now → settings ≡ all_settings (grammar_in x) x.sheet.now
    → {n' g' : List ℕ} {used : ℕ} → Filled x nodes n g n' g' used
    → CallDue x.book.now x.sheet.now (tables_in x) (lent n g) (said (Ok (record { nodes = count; settings = settings; groups = used }))) (lent n' g')
settled_well {x} {n} {g} clear tells small choice {count} {settings} en es {n'} {g'} {used} filled =
    let t = tree_in x in
    let (none, chosen) = choice.case t in
    let counts = ap₂ (λ (a b : ℕ). a ∷ b ∷ used ∷ []) en es in
    (nothing_applies clear (not_big tells small) t none, subst (Grouped (grammar_in x) x.sheet.now (tables_in x) (lent n g) (lent n' g')) (sym counts) (filled.all t chosen))
