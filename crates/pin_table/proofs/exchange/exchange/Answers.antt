use Rattle.std.proofs.Common.{arith, sym, ap, ◌∙◌, subst, ◌≡◌, ◌++◌, ◌==◌, drop, take}
use Rattle.std.specs.Prelude.{position}
use Rattle.atomic_table.specs.Table.{turned}
use Rattle.pin_table.specs.Carried.{slots_of, Exchanges}
use Rattle.pin_table.proofs.CarriedLemmas.{none_missing, slots_of-turned, turned_more, carried_there, at_head, exchanges}
use Rattle.pin_table.proofs.exchange.exchange.Goals as goal

pub unreachable-requires : goal.unreachable-requires
unreachable-requires g c = let once = c.requires.taken in none_missing c.args.slot c.args.carried.now (omega arith) (sym c.position.ensures ∙ c.in_default.is)

pub loop-preserved : goal.loop-preserved
loop-preserved g c = let inv = c.loop.invariant in let t = c.turn.ensures in
    let found = carried_there c.args.seat.now.me.1 c.args.slot c.in-Some.turns (sym (ap (position (λ other. other == c.args.slot)) c.requires.listed) ∙ (sym c.position.ensures ∙ c.in-Some.is)) in
    let within = found.0 in let more = c.loop-test.true in
    let me = t.2 ∙ (ap (λ m. (m.0, turned m.1)) inv.2 ∙ ap (λ l. (c.args.seat.now.me.0, l)) (turned_more c.args.seat.now.me.1 c.loop.counter (omega arith))) in
    (t.0 ∙ inv.0, t.1 ∙ inv.1, me, c.turn-in-loop.ensures ∙ (ap (λ l. drop 1 l ++ take 1 l) inv.3 ∙ (sym (slots_of-turned c.loop.seat.me.1) ∙ ap (λ m. slots_of m.1) (sym t.2))))

pub exchange-requires : goal.exchange-requires
exchange-requires g c = let inv = c.loop.invariant in
    let found = carried_there c.args.seat.now.me.1 c.args.slot c.in-Some.turns (sym (ap (position (λ other. other == c.args.slot)) c.requires.listed) ∙ (sym c.position.ensures ∙ c.in-Some.is)) in
    let low = c.loop-test.false in let high = c.loop.auto.counter-end in let all : c.loop.counter ≡ c.in-Some.turns = omega arith in
    let turns = ap (λ m. m.1) inv.2 ∙ ap (λ n. drop n c.args.seat.now.me.1 ++ take n c.args.seat.now.me.1) all in
    (inv.0 ∙ c.requires.own, (found.1.0, at_head c.args.seat.now.me.1 c.loop.seat.me.1 c.args.slot c.in-Some.turns found.1.0 found.1.1 turns))

pub returns-clause-exchanged : goal.returns-clause-exchanged
returns-clause-exchanged g c = let inv = c.loop.invariant in let x = c.exchange.ensures in
    let found = carried_there c.args.seat.now.me.1 c.args.slot c.in-Some.turns (sym (ap (position (λ other. other == c.args.slot)) c.requires.listed) ∙ (sym c.position.ensures ∙ c.in-Some.is)) in
    let low = c.loop-test.false in let high = c.loop.auto.counter-end in let all : c.loop.counter ≡ c.in-Some.turns = omega arith in
    let turns = ap (λ m. m.1) inv.2 ∙ ap (λ n. drop n c.args.seat.now.me.1 ++ take n c.args.seat.now.me.1) all in
    subst (Exchanges c.args.slot c.exchange.result c.args.new c.args.seat.now.me.1) (ap (λ m. m.1) (sym x.3))
    (exchanges c.args.seat.now.me.1 c.loop.seat.me.1 c.args.slot c.in-Some.turns found.1.0 c.exchange.result c.args.new found.1.1 turns x.2)
