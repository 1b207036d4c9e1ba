use Rattle.bookcheck.proofs.Cascade.{clear_5, clear_6, clear_7, clear_8, few, markable, refuse_5, refuse_6, refuse_7, refuse_8, accept}
use Rattle.bookcheck.proofs.check_entries.Goals as goal

pub returns-then-k-n : goal.returns-then-k-n
returns-then-k-n c = rw (c.at.ensures, c.from.ensures) (refuse_5 c.requires c.first_bad_kind-k.ensures c.if-k-n.true)

pub returns-then-p-m : goal.returns-then-p-m
returns-then-p-m c = let o = c.requires in
    let h5 = clear_5 o c.first_bad_kind-k.ensures c.if-k-n.false in
    rw (c.at-then-p-m.ensures, c.from-then-p-m.ensures) (refuse_6 o h5 c.first_bad-p.ensures c.if-p-m.true)

pub returns-then-q-m : goal.returns-then-q-m
returns-then-q-m c = let o = c.requires in
    let h5 = clear_5 o c.first_bad_kind-k.ensures c.if-k-n.false in
    let h6 = clear_6 o c.first_bad-p.ensures c.if-p-m.false in
    rw (c.at-then-q-m.ensures, c.from-then-q-m.ensures) (refuse_7 o h5 h6 c.first_bad-q.ensures c.if-q-m.true)

pub first_headless-h-requires : goal.first_headless-h-requires
first_headless-h-requires c = let o = c.requires in
    (markable o (clear_6 o c.first_bad-p.ensures c.if-p-m.false), few o)

pub returns-then-h-n : goal.returns-then-h-n
returns-then-h-n c = let o = c.requires in
    let h5 = clear_5 o c.first_bad_kind-k.ensures c.if-k-n.false in
    let h6 = clear_6 o c.first_bad-p.ensures c.if-p-m.false in
    let h7 = clear_7 o c.first_bad-q.ensures c.if-q-m.false in
    rw (c.at-then-h-n.ensures, c.from-then-h-n.ensures) (refuse_8 o h5 h6 h7 c.first_headless-h.ensures c.if-h-n.true)

pub returns : goal.returns
returns c = let o = c.requires in
    let h5 = clear_5 o c.first_bad_kind-k.ensures c.if-k-n.false in
    let h6 = clear_6 o c.first_bad-p.ensures c.if-p-m.false in
    let h7 = clear_7 o c.first_bad-q.ensures c.if-q-m.false in
    let h8 = clear_8 o c.first_headless-h.ensures c.if-h-n.false in
    accept o h5 h6 h7 c.from-2.ensures c.from-3.ensures h8
