-- The six bytes of a procedure head as a value, and that they are the numbers that the model gives its procedure.
use Rattle.std.specs.Prelude.{ℕ, ◌+◌, ◌<◌, List, ◌≡◌}
use Rattle.model.specs.File.{byte_at, head_of, params_main, params_ptr, results_main, results_ptr, greatest_main, greatest_ptr}
use Rattle.code_file.specs.declared.Head.{Head}

-- the bytes behind the kind of the head at h, in the file's order
unfoldable pub head_bytes : List ℕ → ℕ → Head
head_bytes f h = record {
  a = byte_at f (h + 1);
  b = byte_at f (h + 2);
  r = byte_at f (h + 3);
  s = byte_at f (h + 4);
  x = byte_at f (h + 5);
  y = byte_at f (h + 6);
}

-- the numbers of procedure n
unfoldable pub proc_head : List ℕ → ℕ → Head
proc_head f n = record {
  a = params_main f n;
  b = params_ptr f n;
  r = results_main f n;
  s = results_ptr f n;
  x = greatest_main f n;
  y = greatest_ptr f n;
}

-- the head's value is its six bytes, each below 256
pub record HeadIs (f : List ℕ) (h : ℕ) (v : Head) : Type 0 where
  pub is : v ≡ head_bytes f h
  pub a_small : v.a < 256
  pub b_small : v.b < 256
  pub r_small : v.r < 256
  pub s_small : v.s < 256
  pub x_small : v.x < 256
  pub y_small : v.y < 256

-- at the head of procedure n stand its numbers
pub head-of : (f : List ℕ) (n h : ℕ) → h ≡ head_of f n → head_bytes f h ≡ proc_head f n
unfolding head_bytes proc_head params_main params_ptr results_main results_ptr greatest_main greatest_ptr
head-of f n h e = rw e
