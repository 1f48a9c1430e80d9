pub mod BarrierLaws
