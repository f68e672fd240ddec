use Rattle.std.proofs.Common.{◌≡◌, ◌≢◌, ℕ, ◌<◌, ◌≤◌, true, false, get_or}
use Rattle.std.specs.Prelude.{None, sum}
use Rattle.comb_order.specs.Distance.{AreSupported, one_read_more}
use Rattle.comb_order.proofs.distance.shorten.Given as goal

-- ranks are supported; they are less in all where a way was found, and else the same, and none is longer than the way
-- through the part that is read first
abbrev pub invariant-loop-part : goal.invariant-loop-part
invariant-loop-part l = record {
  supported : AreSupported l.flat l.to l.ranks;
  less : l.found ≡ true → sum l.ranks < sum l.initial.ranks;
  no_more : sum l.ranks ≤ sum l.initial.ranks;
  same : l.found ≡ false → l.ranks ≡ l.initial.ranks;
  settled : l.found ≡ false → (p : ℕ) → p < l.part → p ≢ l.to
      → get_or l.ranks p 0 ≤ one_read_more l.ranks (get_or l.firsts.items p None);
}
