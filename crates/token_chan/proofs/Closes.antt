-- What the two passes of a channel tell, each with the other end's in it.
use Rattle.std.proofs.Common.{◌≡◌, Option, Some, None, MatchOption, ℕ, List, length, ◌++◌, ◌+◌, ◌≤◌, sym, ap, subst, ◌∙◌, arith}
use Rattle.std.proofs.lemmas.List.{append_cancel_left, length-append}
use Rattle.crossbeam_queue.specs.Fifo.{Held}
use Rattle.named_run.specs.Named.{token_of}
use Rattle.named_run.specs.declared.token.Token.{Token}
use Rattle.token_chan.specs.Names.{Name}
use Rattle.token_chan.specs.TokenRule.{joined_view, takes, counted, stands}
use Rattle.token_chan.specs.ReturnRule.{both_view, returns_stand}
use Rattle.token_chan.specs.Ends.{Giver, Taker, AreEnds, OldestIs, TokensStand, ReturnsStand}
use Rattle.token_chan.specs.declared.view.TokenView.{TokenView}
use Rattle.token_chan.specs.declared.view.ReturnView.{ReturnView}

pub oldest_is : (g : Giver) (t : Taker) (v w : TokenView) (r : Option Token) → v ≡ joined_view g.name g.given t.taken t.known g.known → g.name ≡ t.name
    → MatchOption r ((w ≡ v) × Held 0 (counted v)) (λ x. takes v x w) → OldestIs g t r
oldest_is g t v w None is same h =
    let e = h.1.1 in let f = h.1.2 in
    let a = ap (λ (y : TokenView). y.given) is in let b = ap (λ (y : TokenView). y.taken) is in omega (arith, e, f, a, b)
oldest_is g t v w (Some x) is same h = (
  (let l = h.1 (ap (λ (y : TokenView). y.gives) is) in
      let a = ap (λ (y : TokenView). y.given) is in let b = ap (λ (y : TokenView). y.taken) is in omega (arith, l, a, b)),
  h.0 ∙ (λ i. token_of (is i).name.run (is i).name.channel (is i).taken) ∙ (λ i. token_of (same i).run (same i).channel t.taken),
)

-- how both ends stand, by what the joined passes learn
pub tokens_stand : (g : Giver) (t : Taker) (v : TokenView) → v ≡ joined_view g.name g.given t.taken t.known g.known
    → (items : List Token) × stands v items → TokensStand g t
tokens_stand g t v is known =
    let given = ap (λ (y : TokenView). y.given) is in let taken = ap (λ (y : TokenView). y.taken) is in
    let knows_given = ap (λ (y : TokenView). y.knows_given) is in let knows_taken = ap (λ (y : TokenView). y.knows_taken) is in
    let depth : v.name.depth ≡ g.name.depth = ap (λ (y : TokenView). y.name.depth) is in
    let held = known.1.0 in let room = known.1.1 in let giver = known.1.2 in let taker = known.1.3 in
    record {
      behind = omega (arith, given, taken, held);
      room = omega (arith, given, taken, held, room, depth);
      giver_knows = omega (arith, giver, taken, knows_taken);
      taker_knows = omega (arith, taker, given, knows_given);
    }

pub returns_stand_so : (g : Giver) (t : Taker) (x : Name) (w : ReturnView) → w ≡ both_view x g.reused t.returned g.known_returned t.known_reused
    → x.depth ≡ g.name.depth → (items : List Token) × returns_stand w items → ReturnsStand g t
returns_stand_so g t x w is deep known =
    let depth : w.name.depth ≡ g.name.depth = ap (λ (y : ReturnView). y.name.depth) is ∙ deep in
    let reused = ap (λ (y : ReturnView). y.reused) is in let returned = ap (λ (y : ReturnView). y.returned) is in
    let many_reused = ap (λ (y : ReturnView). length y.reused) is in let many_returned = ap (λ (y : ReturnView). length y.returned) is in
    let knows_returned = ap (λ (y : ReturnView). y.knows_returned) is in let knows_reused = ap (λ (y : ReturnView). y.knows_reused) is in
    let few = known.1.1 in let giver = known.1.2 in let taker = known.1.3 in
    record {
      waiting = known.0;
      in_order = ap (λ (l : List Token). l ++ known.0) (sym reused) ∙ known.1.0 ∙ returned;
      room = omega (arith, few, depth);
      giver_knows = omega (arith, giver, many_returned, knows_returned);
      taker_knows = omega (arith, taker, many_reused, knows_reused);
    }

-- how the tokens stand doesn't rest on what the ends know of returned ones
pub tokens_again : (g : Giver) (t : Taker) (h : Giver) (u : Taker) (a b : ℕ) → h ≡ record g { known_returned = a } → u ≡ record t { known_reused = b }
    → TokensStand h u → TokensStand g t
tokens_again g t h u a b is was s =
    let at : TokensStand (record g { known_returned = a }) (record t { known_reused = b }) = subst (λ (p : Giver × Taker). TokensStand p.0 p.1) (λ i. (is i, was i)) s in
    record { behind = at.behind; room = at.room; giver_knows = at.giver_knows; taker_knows = at.taker_knows }

pub ends_again : (g : Giver) (t : Taker) (h : Giver) (u : Taker) (a b : ℕ) → h ≡ record g { known_returned = a } → u ≡ record t { known_reused = b }
    → AreEnds g t → AreEnds h u
ends_again g t h u a b is was s = record {
  name = ap (λ (y : Giver). y.name) is ∙ s.name ∙ ap (λ (y : Taker). y.name) (sym was);
  queues = ap (λ (y : Giver). y.queues) is ∙ s.queues ∙ ap (λ (y : Taker). y.queues) (sym was);
}

-- all returned tokens are as few as were held
pub all_few : (g : Giver) (t : Taker) (waiting : List Token) → ReturnsStand g t → g.reused ++ waiting ≡ t.returned → length waiting ≤ g.name.depth
all_few g t waiting s e = subst (λ (l : List Token). length l ≤ g.name.depth) (append_cancel_left g.reused s.waiting waiting (s.in_order ∙ sym e)) s.room

-- there is room for as many as wait
pub room_for : (g : Giver) (t : Taker) (w : ReturnView) (len cap : ℕ) → w.reused ≡ g.reused → w.returned ≡ t.returned → ReturnsStand g t
    → len + g.name.depth ≤ cap → len + length w.returned ≤ cap + length w.reused
room_for g t w len cap reused returned s room =
    let all = sym (length-append g.reused s.waiting) ∙ ap (λ (l : List Token). length l) s.in_order in let few = s.room in
    let a = ap (λ (l : List Token). length l) reused in let b = ap (λ (l : List Token). length l) returned in
    omega (arith, all, few, a, b, room)
