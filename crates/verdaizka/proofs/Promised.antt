-- What each call of the archive promises is what the library's call of its name promises, of which the claims of crate demands speak: as
-- the checker hands them to a caller, `Learnt`, the two are one, by computing.
use Rattle.std.specs.Prelude.{◌≡◌, refl}
use Rattle.cmachine.proofs.vz_make.Reads as vz_make_own
use Rattle.cmachine.proofs.vz_load_line.Reads as vz_load_line_own
use Rattle.cmachine.proofs.vz_load_cw.Reads as vz_load_cw_own
use Rattle.cmachine.proofs.vz_load_ccw.Reads as vz_load_ccw_own
use Rattle.cmachine.proofs.vz_tick.Reads as vz_tick_own
use Rattle.cmachine.proofs.vz_run.Reads as vz_run_own
use Rattle.cmachine.proofs.vz_hold.Reads as vz_hold_own
use Rattle.cmachine.proofs.vz_release.Reads as vz_release_own
use Rattle.cmachine.proofs.vz_stop.Reads as vz_stop_own
use Rattle.cmachine.proofs.lookahead.vz_ahead.Reads as vz_ahead_own
use Rattle.cmachine.proofs.text.vz_read_line.Reads as vz_read_line_own
use Rattle.ccheck.proofs.vz_check_start.Reads as vz_check_start_own
use Rattle.ccheck.proofs.vz_check_fill.Reads as vz_check_fill_own
use Rattle.cpanel.proofs.vz_panel_start.Reads as vz_panel_start_own
use Rattle.cpanel.proofs.vz_panel_read.Reads as vz_panel_read_own
use Rattle.verdaizka.proofs.vz_make.Reads as vz_make_exported
use Rattle.verdaizka.proofs.vz_load_line.Reads as vz_load_line_exported
use Rattle.verdaizka.proofs.vz_load_cw.Reads as vz_load_cw_exported
use Rattle.verdaizka.proofs.vz_load_ccw.Reads as vz_load_ccw_exported
use Rattle.verdaizka.proofs.vz_tick.Reads as vz_tick_exported
use Rattle.verdaizka.proofs.vz_run.Reads as vz_run_exported
use Rattle.verdaizka.proofs.vz_hold.Reads as vz_hold_exported
use Rattle.verdaizka.proofs.vz_release.Reads as vz_release_exported
use Rattle.verdaizka.proofs.vz_stop.Reads as vz_stop_exported
use Rattle.verdaizka.proofs.vz_ahead.Reads as vz_ahead_exported
use Rattle.verdaizka.proofs.vz_read_line.Reads as vz_read_line_exported
use Rattle.verdaizka.proofs.vz_check_start.Reads as vz_check_start_exported
use Rattle.verdaizka.proofs.vz_check_fill.Reads as vz_check_fill_exported
use Rattle.verdaizka.proofs.vz_panel_start.Reads as vz_panel_start_exported
use Rattle.verdaizka.proofs.vz_panel_read.Reads as vz_panel_read_exported

pub vz_make_is : vz_make_exported.Learnt ≡ vz_make_own.Learnt
vz_make_is = refl

pub vz_load_line_is : vz_load_line_exported.Learnt ≡ vz_load_line_own.Learnt
vz_load_line_is = refl

pub vz_load_cw_is : vz_load_cw_exported.Learnt ≡ vz_load_cw_own.Learnt
vz_load_cw_is = refl

pub vz_load_ccw_is : vz_load_ccw_exported.Learnt ≡ vz_load_ccw_own.Learnt
vz_load_ccw_is = refl

pub vz_tick_is : vz_tick_exported.Learnt ≡ vz_tick_own.Learnt
vz_tick_is = refl

pub vz_run_is : vz_run_exported.Learnt ≡ vz_run_own.Learnt
vz_run_is = refl

pub vz_hold_is : vz_hold_exported.Learnt ≡ vz_hold_own.Learnt
vz_hold_is = refl

pub vz_release_is : vz_release_exported.Learnt ≡ vz_release_own.Learnt
vz_release_is = refl

pub vz_stop_is : vz_stop_exported.Learnt ≡ vz_stop_own.Learnt
vz_stop_is = refl

pub vz_ahead_is : vz_ahead_exported.Learnt ≡ vz_ahead_own.Learnt
vz_ahead_is = refl

pub vz_read_line_is : vz_read_line_exported.Learnt ≡ vz_read_line_own.Learnt
vz_read_line_is = refl

pub vz_check_start_is : vz_check_start_exported.Learnt ≡ vz_check_start_own.Learnt
vz_check_start_is = refl

pub vz_check_fill_is : vz_check_fill_exported.Learnt ≡ vz_check_fill_own.Learnt
vz_check_fill_is = refl

pub vz_panel_start_is : vz_panel_start_exported.Learnt ≡ vz_panel_start_own.Learnt
vz_panel_start_is = refl

pub vz_panel_read_is : vz_panel_read_exported.Learnt ≡ vz_panel_read_own.Learnt
vz_panel_read_is = refl
