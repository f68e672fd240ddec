-- What the events of a block are given, and what fires of the blocks.
use Rattle.std.proofs.Common.{◌≡◌, ℕ, ◌+◌, ◌^◌, ◌<◌, ◌≤◌, List, [], ◌∷◌, ◌++◌, length, take, drop, get_or, refl, sym, ap, ◌∙◌, subst, append_assoc, arith}
use Rattle.std.proofs.lemmas.List.{take_more, length-take-le, length_push}
use Rattle.std.proofs.lemmas.List.Sums.{sum_by-cons}
use Rattle.netlist.specs.Plain.{PlainBlock}
use Rattle.netlist.specs.Fits.{event_count}
use Rattle.netlist.specs.Run.{Fired, block_fired, blocks_fired, stop_count}
use Rattle.netlist.specs.declared.design.Event.{Event}
use Rattle.netlist.specs.declared.node.Node.{Node}
use Rattle.message_text.specs.Told.{Told, IsGiven, FitsShown, AreGiven, FitAll, TellsBlock}
use Rattle.message_text.specs.declared.telling.Given.{Given}
use Rattle.flat_sim.proofs.Fires.{stops_few}
use Rattle.flat_sim.proofs.Loops.{dropped}

given_pushed : (nodes : List Node) (xs : List ℕ) (es : List Event) (gs : List Given) (x : Event) (g : Given)
    → length gs ≡ length es → AreGiven nodes xs es gs → IsGiven nodes xs x g
    → AreGiven nodes xs (es ++ x ∷ []) (gs ++ g ∷ [])
given_pushed nodes xs [] [] x g c h one = (one, tt)
given_pushed nodes xs [] (f ∷ gs) x g c h one = absurd (omega (arith, c))
given_pushed nodes xs (y ∷ es) [] x g c h one = absurd h
given_pushed nodes xs (y ∷ es) (f ∷ gs) x g c h one =
    (h.0, given_pushed nodes xs es gs x g (omega (arith, c)) h.1 one)

fits_pushed : (es : List Event) (gs : List Given) (x : Event) (g : Given) → length gs ≡ length es → FitAll es gs
    → FitsShown x.effect g → FitAll (es ++ x ∷ []) (gs ++ g ∷ [])
fits_pushed [] [] x g c h one = (one, tt)
fits_pushed [] (f ∷ gs) x g c h one = absurd (omega (arith, c))
fits_pushed (y ∷ es) [] x g c h one = absurd h
fits_pushed (y ∷ es) (f ∷ gs) x g c h one = (h.0, fits_pushed es gs x g (omega (arith, c)) h.1 one)

-- one event more
pub record GivenOf (nodes : List Node) (xs : List ℕ) (es : List Event) (gs : List Given) (k : ℕ) : Type 0 where
  pub count : length gs ≡ k
  pub given : AreGiven nodes xs (take k es) gs
  pub fits : FitAll (take k es) gs

pub given_more : (nodes : List Node) (xs : List ℕ) (es : List Event) (gs all : List Given) (k : ℕ) (x : Event)
    (g : Given) → k < length es → x ≡ get_or es k x → all ≡ gs ++ g ∷ [] → GivenOf nodes xs es gs k
    → IsGiven nodes xs x g → FitsShown x.effect g → GivenOf nodes xs es all (k + 1)
given_more nodes xs es gs all k x g l is pushed h one fits =
    let e : take (k + 1) es ≡ take k es ++ x ∷ [] =
    take_more es k x l ∙ ap (λ (y : Event). take k es ++ y ∷ []) (sym is) in
    let c : length gs ≡ length (take k es) = h.count ∙ sym (length-take-le k es (omega (arith, l))) in
    subst (λ (out : List Given). GivenOf nodes xs es out (k + 1)) (sym pushed) (record {
      count = length_push gs g ∙ ap (λ n. n + 1) h.count;
      given = subst (λ (as' : List Event). AreGiven nodes xs as' (gs ++ g ∷ [])) (sym e)
          (given_pushed nodes xs (take k es) gs x g c h.given one);
      fits = subst (λ (as' : List Event). FitAll as' (gs ++ g ∷ [])) (sym e)
          (fits_pushed (take k es) gs x g c h.fits fits);
    })

-- what fired, and what fires of the blocks from one on, is what fires of all
pub record ToldOf (nodes : List Node) (xs : List ℕ) (bs : List PlainBlock) (t : Told) (k : ℕ) : Type 0 where
  pub room : t.stop + event_count (drop k bs) < 2 ^ 32
  pub empty : t.text ≡ []
  pub all : t.fired ++ blocks_fired nodes xs t.stop (drop k bs) ≡ blocks_fired nodes xs 0 bs

pub told_more : (nodes : List Node) (xs : List ℕ) (bs : List PlainBlock) (t u : Told) (k : ℕ) (b : PlainBlock)
    (gs : List Given) → k < length bs → b ≡ get_or bs k b → ToldOf nodes xs bs t k → AreGiven nodes xs b.events gs
    → TellsBlock t u b.events gs → ToldOf nodes xs bs u (k + 1)
told_more nodes xs bs t u k b gs l is h given tells =
    let e : drop k bs ≡ b ∷ drop (k + 1) bs =
    dropped bs k b l is in
    let after : u ≡ record {
      stop = t.stop + stop_count b.events;
      text = [];
      fired = t.fired ++ block_fired nodes xs t.stop [] b.events;
    } = tells nodes xs given in
    let count : event_count (drop k bs) ≡ length b.events + event_count (drop (k + 1) bs) =
    ap (λ (cs : List PlainBlock). event_count cs) e ∙ sum_by-cons (λ (x : PlainBlock). length x.events) b (drop (k + 1) bs) in
    let few : stop_count b.events ≤ length b.events = stops_few b.events in
    let rest : List Fired = blocks_fired nodes xs (t.stop + stop_count b.events) (drop (k + 1) bs) in
    subst (λ (v : Told). ToldOf nodes xs bs v (k + 1)) (sym after) (record {
      room = omega (arith, h.room, count, few);
      empty = refl;
      all = append_assoc t.fired (block_fired nodes xs t.stop [] b.events) rest
          ∙ sym (ap (λ (cs : List PlainBlock). t.fired ++ blocks_fired nodes xs t.stop cs) e) ∙ h.all;
    })
