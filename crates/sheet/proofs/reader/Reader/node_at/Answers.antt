use Rattle.std.proofs.Common.{arith, sym, ◌∙◌}
use Rattle.sheet.proofs.Walk.{place_within, found_end, found_unknown, found_kind, found_deep, found_fit}
use Rattle.sheet.proofs.reader.Reader.node_at.Goals as goal

pub returns-in_default : goal.returns-in_default
returns-in_default c = found_end c.args.self.now.sound _ _ _ c.at.ensures c.requires (grind arith)

pub returns-then-productions-from : goal.returns-then-productions-from
returns-then-productions-from c = found_unknown c.args.self.now.sound _ _ _ {p = c.in-Some.p} (grind arith) (grind arith) c.at-then-productions-from.ensures (omega arith)

pub bounds-self-from : goal.bounds-self-from
bounds-self-from c = place_within c.args.self.now.sound (omega arith)

pub returns-then-left-kind : goal.returns-then-left-kind
returns-then-left-kind c =
    let s = c.args.self.now in
    found_kind s.sound _ _ _ (grind arith) (grind arith) (omega arith) s.indexed c.at-then-left-kind.ensures (λ e. c.if-left-kind.true (c.left.ensures ∙ e))

pub returns-then-levels-eq0 : goal.returns-then-levels-eq0
returns-then-levels-eq0 c =
    let s = c.args.self.now in
    found_deep s.sound _ _ _ {p = c.from-3.result} (grind arith) (grind arith) (omega arith) s.indexed (sym c.left.ensures ∙ c.if-left-kind.false) c.at-then-levels-eq0.ensures (omega arith)

pub returns : goal.returns
returns c =
    let s = c.args.self.now in
    found_fit s.sound _ _ _ (grind arith) (grind arith) (omega arith) s.indexed (sym c.left.ensures ∙ c.if-left-kind.false) c.if-levels-eq0.false
