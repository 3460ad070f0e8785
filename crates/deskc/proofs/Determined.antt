-- Each contract of this crate determines its answer. What that is, and how a line here is read, says `crates/determined/specs/Fixes.antt`.
-- Assumes nothing.
use mathlib.Core.Path.{◌≡◌, refl}
use mathlib.Core.List.{List, [], ◌∷◌}
use Prim.Native.Nat.{ℕ}
use native.Mathlib.Omega.{arith}
use lib.ListN.{length}
use contract.Lifetimes.{Lfts}
use denote.Ref.{Bor}
use denote.MutBor.{MutBor}
use denote.Triple.Entry.{Args}
use denote.Param.{number}
use Rattle.determined.specs.Fixes.{Fixes, Answers, nothing_said, result_said, same}
use Rattle.deskc.specs.contracts as c
use Rattle.deskc.proofs as f

-- lib.rt
pub desk_open : Answers c.desk_open.ended f.desk_open.Reads.Asked f.desk_open.Reads.Learnt
desk_open = (λ κs a. tt, λ κs a x y p q i. (same p.0 q.0 i, (tt, (tt, (tt, (tt, (tt, (tt, (tt, (tt, (same p.1 q.1 i, tt)))))))))))

pub desk_take : Answers c.desk_take.ended f.desk_take.Reads.Asked f.desk_take.Reads.Learnt
desk_take = (λ κs a. tt, λ κs a x y p q i. (same p.0 q.0 i, (same p.1 q.1 i, (tt, (tt, (tt, tt))))))

pub desk_take_limited : Answers c.desk_take_limited.ended f.desk_take_limited.Reads.Asked f.desk_take_limited.Reads.Learnt
desk_take_limited = (λ κs a. tt, λ κs a x y p q i. (same p.0 q.0 i, (same p.1 q.1 i, (tt, (tt, (tt, (tt, tt)))))))

pub desk_bring : Answers c.desk_bring.ended f.desk_bring.Reads.Asked f.desk_bring.Reads.Learnt
desk_bring = (λ κs a. tt, λ κs a x y p q i. (same p.0 q.0 i, (same p.1 q.1 i, (tt, (tt, (tt, tt))))))

pub desk_morning : Answers c.desk_morning.ended f.desk_morning.Reads.Asked f.desk_morning.Reads.Learnt
desk_morning = (λ κs a. tt, λ κs a x y p q i. (same p.0 q.0 i, (same p.1.0 q.1.0 i, (tt, (tt, (tt, (same p.1.1 q.1.1 i, tt)))))))

pub desk_path : Answers c.desk_path.ended f.desk_path.Reads.Asked f.desk_path.Reads.Learnt
desk_path = (λ κs a. tt, λ κs a x y p q i. (same p.0 q.0 i, (tt, (tt, (tt, (same p.1 q.1 i, (tt, tt)))))))

pub desk_print : Answers c.desk_print.ended f.desk_print.Reads.Asked f.desk_print.Reads.Learnt
desk_print = (λ κs a. tt, λ κs a x y p q i. (same p.0 q.0 i, (tt, (same p.1 q.1 i, tt))))

pub desk_map : Answers c.desk_map.ended f.desk_map.Reads.Asked f.desk_map.Reads.Learnt
desk_map = (λ κs a. tt, λ κs a x y p q i. (same p.0 q.0 i, (tt, (same p.1.0 q.1.0 i, (same p.1.1 q.1.1 i, tt)))))

pub desk_map_spot : Answers c.desk_map_spot.ended f.desk_map_spot.Reads.Asked f.desk_map_spot.Reads.Learnt
desk_map_spot = (λ κs a. tt, λ κs a x y p q i. (same p q i, x.1))

pub desk_map_state : Answers c.desk_map_state.ended f.desk_map_state.Reads.Asked f.desk_map_state.Reads.Learnt
desk_map_state = (λ κs a. tt, λ κs a x y p q i. (same p q i, x.1))

pub desk_file_read : Answers c.desk_file_read.ended f.desk_file_read.Reads.Asked f.desk_file_read.Reads.Learnt
desk_file_read = (λ κs a. tt, λ κs a x y p q i. (same p.0 q.0 i, (tt, (same p.1.0 q.1.0 i, (same p.1.1.0 q.1.1.0 i, (same p.1.1.1.0 q.1.1.1.0 i, (same p.1.1.1.1 q.1.1.1.1 i, tt)))))))

pub desk_file_write : Answers c.desk_file_write.ended f.desk_file_write.Reads.Asked f.desk_file_write.Reads.Learnt
desk_file_write = (λ κs a. tt, λ κs a x y p q i. (same p.0 q.0 i, (tt, (tt, (tt, (tt, (tt, (tt, (tt, (tt, (tt, (same p.1 q.1 i, tt))))))))))))

-- row.rt
pub unfit : Answers c.row.unfit.ended f.row.unfit.Reads.Asked f.row.unfit.Reads.Learnt
unfit = (λ κs a. tt, λ κs a x y p q i. (same p q i, x.1))

pub at_most : Answers c.row.at_most.ended f.row.at_most.Reads.Asked f.row.at_most.Reads.Learnt
at_most = (λ κs a. tt, λ κs a x y p q i. (same p q i, x.1))

pub is_row : Answers c.row.is_row.ended f.row.is_row.Reads.Asked f.row.is_row.Reads.Learnt
is_row = (λ κs a. tt, λ κs a x y p q i. (same p q i, x.1))

-- T is the numbers' type and n how many there are; the others are what Rattle knows of them, and of T's traits
pub part : (T n l k o g d h e : _) → Fixes (c.row.part.ended T (number n) g d h e) (f.row.part.Reads.Learnt T n l k o g d h e)
part T n l k o g d h e κs a x y p q i = (same p q i, x.1)

pub unpack : Fixes c.row.unpack.ended f.row.unpack.Reads.Learnt
unpack κs a x y p q i = (same p q i, x.1)

pub put : (T n l k o g d h e : _) → Fixes (c.row.put.ended T (number n) g d h e) (f.row.put.Reads.Learnt T n l k o g d h e)
put T n l k o g d h e κs a x y p q i = (tt, (same p q i, (tt, tt)))

pub put_changing : Fixes c.row.put_changing.ended f.row.put_changing.Reads.Learnt
put_changing κs a x y p q i = (tt, (same p q i, (tt, tt)))

pub put_taken : Fixes c.row.put_taken.ended f.row.put_taken.Reads.Learnt
put_taken κs a x y p q i = (tt, (same p q i, (tt, (tt, tt))))

pub put_head : Fixes c.row.put_head.ended f.row.put_head.Reads.Learnt
put_head κs a x y p q i = (tt, (same p q i, (tt, tt)))

-- stored.rt
pub u8_read : Fixes c.stored.U8Stored.read.ended f.stored.U8Stored.read.Reads.Learnt
u8_read κs a x y p q i = (same p q i, x.1)

pub u8_write : Fixes c.stored.U8Stored.write.ended f.stored.U8Stored.write.Reads.Learnt
u8_write κs a x y p q i = (tt, (tt, (same p q i, tt)))

pub u16_read : Fixes c.stored.U16Stored.read.ended f.stored.U16Stored.read.Reads.Learnt
u16_read κs a x y p q i = (same p q i, x.1)

pub u16_write : Fixes c.stored.U16Stored.write.ended f.stored.U16Stored.write.Reads.Learnt
u16_write κs a x y p q i = (tt, (tt, (same p q i, tt)))

pub u32_read : Fixes c.stored.U32Stored.read.ended f.stored.U32Stored.read.Reads.Learnt
u32_read κs a x y p q i = (same p q i, x.1)

pub u32_write : Fixes c.stored.U32Stored.write.ended f.stored.U32Stored.write.Reads.Learnt
u32_write κs a x y p q i = (tt, (tt, (same p q i, tt)))

pub u64_read : Fixes c.stored.U64Stored.read.ended f.stored.U64Stored.read.Reads.Learnt
u64_read κs a x y p q i = (same p q i, x.1)

pub u64_write : Fixes c.stored.U64Stored.write.ended f.stored.U64Stored.write.Reads.Learnt
u64_write κs a x y p q i = (tt, (tt, (same p q i, tt)))

-- weights.rt
pub clamp : Answers c.weights.clamp.ended f.weights.clamp.Reads.Asked f.weights.clamp.Reads.Learnt
clamp = (λ κs a. tt, λ κs a x y p q i. (same p q i, x.1))

-- maps.rt
pub survey_code : Answers c.maps.survey_code.ended f.maps.survey_code.Reads.Asked f.maps.survey_code.Reads.Learnt
survey_code = (λ κs a. tt, λ κs a x y p q i. (same p q i, x.1))

pub spot_code : Answers c.maps.spot_code.ended f.maps.spot_code.Reads.Asked f.maps.spot_code.Reads.Learnt
spot_code = (λ κs a. tt, λ κs a x y p q i. (same p q i, x.1))

pub state_code : Answers c.maps.state_code.ended f.maps.state_code.Reads.Asked f.maps.state_code.Reads.Learnt
state_code = (λ κs a. tt, λ κs a x y p q i. (same p q i, x.1))

-- files.rt
pub fault_code : Fixes c.files.fault_code.ended f.files.fault_code.Reads.Learnt
fault_code κs a x y p q i = (same p q i, x.1)

pub read_code : Fixes c.files.read_code.ended f.files.read_code.Reads.Learnt
read_code κs a x y p q i = (same p q i, x.1)

pub filed_code : Answers c.files.filed_code.ended f.files.filed_code.Reads.Asked f.files.filed_code.Reads.Learnt
filed_code = (λ κs a. tt, λ κs a x y p q i. (same p q i, x.1))

pub put_contents : Fixes c.files.put_contents.ended f.files.put_contents.Reads.Learnt
put_contents κs a x y p q i = (tt, (same p q i, (tt, tt)))

pub put_numbers : Fixes c.files.put_numbers.ended f.files.put_numbers.Reads.Learnt
put_numbers κs a x y p q i = (tt, (same p q i, (tt, tt)))

-- What a weaker contract would leave open. Slices for the examples, one to read and one to write:
abbrev some : Bor (List ℕ)
some = record { ref_ptr = (0, 0); now = [] }

abbrev lent : MutBor (List ℕ)
lent = record { ref_ptr = (0, 0); ghost_name = 0; now = [] }

apart : ¬ (◌≡◌ {A = ℕ} 0 1)
apart e = omega (arith, e)

-- had `desk_map_state` no `ensures`, it would not be determined
pub state_unsaid : ¬ Fixes c.desk_map_state.ended (λ κs a r e. Unit {0})
state_unsaid d = apart (λ i. (nothing_said c.desk_map_state.ended d ([], tt) (some, (0, (0, tt))) (0, (tt, (tt, (tt, tt)))) (1, (tt, (tt, (tt, tt)))) i).0)

-- nor would `desk_print`, were its length said alone, whatever it is
pub buffer_unsaid : (said : (κs : Lfts 2) → Args c.desk_print.signature κs → ℕ) → ¬ Fixes c.desk_print.ended (λ κs a r e. r ≡ said κs a)
buffer_unsaid said d =
    apart (λ i. length (result_said c.desk_print.ended (λ κs a r. r ≡ said κs a) d ([], ([], tt)) (some, (lent, tt)) (said _ _) refl (tt, ([], tt)) (tt, (0 ∷ [], tt)) i).1.0)
