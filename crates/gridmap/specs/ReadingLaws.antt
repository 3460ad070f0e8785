-- What a text that is a map has, and what reading a text comes to.
use Rattle.std.specs.Prelude.{◌≡◌, Bool, true, false, List, ℕ, ◌≤◌, length, leb, Result, Ok, Err}
use Rattle.std.proofs.Common.{leb-true}
use Rattle.laws.specs.Truth.{and_left, and_right, provided, provided_held}
use Rattle.gridmap.specs.declared.faults.MapFault.{MapFault}
use Rattle.gridmap.specs.declared.faults.MapFault.TheVariants.{BadHead, BadRows, BadCount, ShortSlice}
use Rattle.gridmap.specs.Text.{head_right}
use Rattle.gridmap.specs.Map.{Map, map_of, rows_right, state_count, count_right}
use Rattle.gridmap.specs.Reading.{map_fault, roomy, map_refused, drawn, read_map}

-- what a text has that none of 31 to 33 applies to
pub record IsMap (text : List ℕ) : Type 0 where
  pub headed : head_right text ≡ true
  pub rowed : rows_right (map_of text) ≡ true
  pub some : 1 ≤ state_count (map_of text)
  pub few : state_count (map_of text) ≤ 256

-- a rung of the ladder that nothing was refused on
passed : (ok : Bool) (fault : MapFault) (rest : Result (Unit {0}) MapFault) → provided ok (Err fault) rest ≡ Ok tt → (ok ≡ true) × (rest ≡ Ok tt)
passed ok fault rest e = provided_held (λ r. r ≡ Ok tt) ok (Err fault) rest (λ q. cc) e

pub map_is : (text : List ℕ) → map_fault text ≡ Ok tt → IsMap text
unfolding map_fault count_right
map_is text e =
    let head = passed (head_right text) BadHead _ e in
    let rows = passed (rows_right (map_of text)) BadRows _ head.1 in
    let counted = (passed (count_right (map_of text)) BadCount _ rows.1).0 in
    record {
      headed = head.0;
      rowed = rows.0;
      some = leb-true _ _ (and_left _ (leb (state_count (map_of text)) 256) counted);
      few = leb-true _ _ (and_right (leb 1 (state_count (map_of text))) _ counted);
    }

-- what comes back, by what applies
module _ (text passages estimates : List ℕ) where
  pub read_refused : (fault : MapFault) → map_fault text ≡ Err fault → read_map text passages estimates ≡ map_refused passages estimates fault
  unfolding read_map
  read_refused fault e = rw e

  module _ (m : Map) (q : m ≡ map_of text) (e : map_fault text ≡ Ok tt) where
    pub read_short : roomy m (length passages) (length estimates) ≡ false → read_map text passages estimates ≡ map_refused passages estimates ShortSlice
    unfolding read_map
    read_short r = rw (e, ← q, r)

    pub read_drawn : roomy m (length passages) (length estimates) ≡ true → read_map text passages estimates ≡ drawn m passages estimates
    unfolding read_map
    read_drawn r = rw (e, ← q, r)
