-- What the blocks of a design said in a cycle so far, and what an event is given. This project's own.
use Rattle.std.specs.Prelude.{◌≡◌, ℕ, ◌+◌, ◌≤◌, ◌<◌, ◌^◌, Bool, true, if◌then◌else◌, List, [], ◌∷◌, ◌++◌, length, drop, slice_index}
use Rattle.bit_ops.specs.Operators.{holds}
use Rattle.dt_core.specs.declared.limits.TheConstants.{MAX_WIDTH}
use Rattle.netlist.specs.Plain.{PlainBlock}
use Rattle.netlist.specs.Run.{Fired, block_fired, blocks_fired, stop_count}
use Rattle.netlist.specs.Values.{width_at}
use Rattle.netlist.specs.declared.design.Effect.{Effect}
use Rattle.netlist.specs.declared.design.Effect.TheVariants as e
use Rattle.netlist.specs.declared.design.Event.{Event}
use Rattle.netlist.specs.declared.node.Node.{Node}
use Rattle.message_text.specs.declared.telling.Given.{Given}

-- the number of the next stop, the text since the last one in the same block, and what fired
pub record Told : Type 0 where
  pub stop : ℕ
  pub text : List ℕ
  pub fired : List Fired

-- ---- what an event is given

-- the width and the value that an effect shows, if it is done and shows one, are those of its node
abbrev pub ShowsGiven : List Node → List ℕ → Effect → Given → Type 0
ShowsGiven nodes xs (e.Said more) g = Unit {0}
ShowsGiven nodes xs (e.Showed s) g = g.done ≡ true
    → (g.width ≡ width_at nodes s.node) × (g.value ≡ slice_index xs s.node)
ShowsGiven nodes xs (e.Stopped place fatal) g = Unit {0}

-- an event is given what is so where these are the values of the nodes
pub record IsGiven (nodes : List Node) (xs : List ℕ) (x : Event) (g : Given) : Type 0 where
  pub done : g.done ≡ holds (slice_index xs x.condition)
  pub shows : ShowsGiven nodes xs x.effect g

-- a value that is shown is one of its width; of an event that isn't done nothing is asked
abbrev pub FitsShown : Effect → Given → Type 0
FitsShown (e.Said more) g = Unit {0}
FitsShown (e.Showed s) g = g.done ≡ true → (1 ≤ g.width) × (g.width ≤ MAX_WIDTH) × (g.value < 2 ^ g.width)
FitsShown (e.Stopped place fatal) g = Unit {0}

-- the same of each event of a block
abbrev pub AreGiven : List Node → List ℕ → List Event → List Given → Type 0
AreGiven nodes xs [] gs = Unit {0}
AreGiven nodes xs (x ∷ es) [] = ⊥
AreGiven nodes xs (x ∷ es) (g ∷ gs) = IsGiven nodes xs x g × AreGiven nodes xs es gs

abbrev pub FitAll : List Event → List Given → Type 0
FitAll [] gs = Unit {0}
FitAll (x ∷ es) [] = ⊥
FitAll (x ∷ es) (g ∷ gs) = FitsShown x.effect g × FitAll es gs

-- the same of each event of these blocks: those of a block come after those of the blocks before it
abbrev pub AreGivenBlocks : List Node → List ℕ → List PlainBlock → List Given → Type 0
AreGivenBlocks nodes xs [] gs = Unit {0}
AreGivenBlocks nodes xs (b ∷ bs) gs =
    AreGiven nodes xs b.events gs × AreGivenBlocks nodes xs bs (drop (length b.events) gs)

abbrev pub FitBlocks : List PlainBlock → List Given → Type 0
FitBlocks [] gs = Unit {0}
FitBlocks (b ∷ bs) gs = FitAll b.events gs × FitBlocks bs (drop (length b.events) gs)

-- the number of the stops of these blocks
abbrev pub stops_of : List PlainBlock → ℕ
stops_of [] = 0
stops_of (b ∷ bs) = stop_count b.events + stops_of bs

-- ---- what an event changes

-- what fired, and what fires from the event on, is what fired after it, and what fires from there on
abbrev pub Tells : Told → Told → Event → Given → Type 0
Tells old new x g = (nodes : List Node) (xs : List ℕ) (more : List Event) → IsGiven nodes xs x g
    → new.fired ++ block_fired nodes xs new.stop new.text more
    ≡ old.fired ++ block_fired nodes xs old.stop old.text (x ∷ more)

-- what fires of a block's events, with no text before them, is added, and its stops are counted
abbrev pub TellsBlock : Told → Told → List Event → List Given → Type 0
TellsBlock old new es gs = (nodes : List Node) (xs : List ℕ) → AreGiven nodes xs es gs
    → new ≡ record {
      stop = old.stop + stop_count es;
      text = [];
      fired = old.fired ++ block_fired nodes xs old.stop [] es;
    }

-- what fires of these blocks is added
abbrev pub TellsBlocks : Told → Told → List PlainBlock → List Given → Type 0
TellsBlocks old new bs gs = (nodes : List Node) (xs : List ℕ) → AreGivenBlocks nodes xs bs gs
    → new.fired ≡ old.fired ++ blocks_fired nodes xs old.stop bs

-- a text is said, where that is done
abbrev pub after_said : Bool → List ℕ → Told → Told
after_said done more t = record t { text = if done then t.text ++ more else t.text }

-- a stop is passed, and where that is done it fires
abbrev pub after_stop : Bool → Told → Told
after_stop done t = record {
  stop = t.stop + 1;
  text = if done then [] else t.text;
  fired = if done then t.fired ++ record { stop = t.stop; message = t.text } ∷ [] else t.fired;
}
